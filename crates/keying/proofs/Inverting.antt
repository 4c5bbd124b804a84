-- The inverse of f as residues and as numbers, and what follows of h.
use Rattle.std.proofs.Common.{◌≡◌, ℕ, ◌<◌, ◌≤◌, List, length, ℤ, None, Err, Result, sym, ap, ◌∙◌, subst, arith, MatchOption, MatchResult}
use Rattle.std.proofs.lemmas.List.{length-map}
use Rattle.std.proofs.lemmas.Option.{MatchOption-at_none}
use Rattle.std.proofs.lemmas.Bool.Decides.{nat_tests}
use Rattle.ring.specs.declared.refusal.Refusal.{Refusal}
use Rattle.ring.specs.declared.refusal.Refusal.TheVariants.{NoInverse}
use Rattle.ring.specs.Engines.{residues, numbers, product_to, product_mod}
use Rattle.ring.specs.Residues.{reduced}
use Rattle.ring.specs.Rows.{product, unit}
use Rattle.ring.specs.Wholes.{residue}
use Rattle.ring.proofs.Products.{product-assoc, product-comm, product-unit}
use Rattle.inversion.specs.Leading.{F, field}
use Rattle.inversion.specs.Inverse.{refused, Inverse, NoInverseOf}
use Rattle.wrapping.specs.Buffers.{over}
use Rattle.wrapping.specs.Secrets.{secret, reduced_row}
use Rattle.wrapping.proofs.SecretLaws.{length-secret}
use Rattle.wrapping.proofs.Filling.{over-whole}
use Rattle.keying.specs.Keying.{Inverts, Uninvertible}
use Rattle.products.proofs.Fronts.{reduced-all_below}
use Rattle.keying.proofs.Residual.{residues-numbers, numbers-residues, numbers-below, numbers-same}

-- f as residues
abbrev secret_row : List ℤ → List F
secret_row f = residues 3456 (reduced_row 3457 (secret f))

length-reduced : (f : List ℤ) → length (reduced_row 3457 (secret f)) ≡ length f
length-reduced f = length-map (secret f) (residue 3457) ∙ length-secret f

length_row : (f : List ℤ) → length (secret_row f) ≡ length f
length_row f = length-map (reduced_row 3457 (secret f)) (reduced 3456) ∙ length-reduced f

pub inverts : (f : List ℤ) (u : List F) → Inverse (secret_row f) u → Inverts (length f) f (numbers u)
unfolding product_to
inverts f u i = record {
  long = length-map u (λ x. x.value) ∙ i.long ∙ length_row f;
  residues = numbers-below 3456 u;
  one =
      ap (λ (x : List F). numbers (product field (length f) x (secret_row f))) (residues-numbers 3456 u)
      ∙ ap numbers (subst (λ (n : ℕ). product field n u (secret_row f) ≡ unit field n) (length_row f) i.one);
}

pub inverse : (f : List ℤ) (u : List ℕ) → Inverts (length f) f u → Inverse (secret_row f) (residues 3456 u)
unfolding product_to
inverse f u i = record {
  long = length-map u (reduced 3456) ∙ i.long ∙ sym (length_row f);
  one = subst (λ (n : ℕ). product field n (residues 3456 u) (secret_row f) ≡ unit field n) (sym (length_row f)) (numbers-same 3456 _ _ i.one);
}

-- the row that the code inverts, from the buffer that f was written into
row_is : (f : List ℤ) (first old : List ℕ) (row : List F) → length old ≡ length f → first ≡ over (reduced_row 3457 (secret f)) old → row ≡ residues 3456 first → row ≡ secret_row f
row_is f first old row l e p = p ∙ ap (residues 3456) (e ∙ over-whole (reduced_row 3457 (secret f)) old (length-reduced f ∙ sym l))

pub solved : (f : List ℤ) (first old last : List ℕ) (row u : List F) → length old ≡ length f → first ≡ over (reduced_row 3457 (secret f)) old → row ≡ residues 3456 first
    → Inverse row u → last ≡ numbers u → Inverts (length f) f last
solved f first old last row u l e p i q =
    subst (λ (x : List ℕ). Inverts (length f) f x) (sym q) (inverts f u (subst (λ (x : List F). Inverse x u) (row_is f first old row l e p) i))

pub unsolved : (f : List ℤ) (first old : List ℕ) (row : List F) → length old ≡ length f → first ≡ over (reduced_row 3457 (secret f)) old → row ≡ residues 3456 first
    → NoInverseOf row → Uninvertible (length f) f
unsolved f first old row l e p none u i = none (residues 3456 u) (subst (λ (x : List F). Inverse x (residues 3456 u)) (sym (row_is f first old row l e p)) (inverse f u i))

-- with the right lengths only 'no inverse' is refused
pub no_other : (n places : ℕ) (e : Refusal) → 0 < n → n ≤ 1024 → places ≡ n
    → MatchOption (refused n places) (MatchResult {T = Unit {0}} (Err e) (λ _. Unit {0}) (λ d. d ≡ NoInverse)) (λ d. ◌≡◌ {A = Result (Unit {0}) Refusal} (Err e) (Err d)) → e ≡ NoInverse
no_other n places e some small same c =
    let none : refused n places ≡ None = grind (arith, nat_tests) in
    MatchOption-at_none (e ≡ NoInverse) (λ (d : Refusal). ◌≡◌ {A = Result (Unit {0}) Refusal} (Err e) (Err d)) none c

-- u times g is g times u
pub swapped : (n : ℕ) (u : List ℕ) (g : List ℤ) → 0 < n → length u ≡ n → length g ≡ n → product_mod 3457 n u (reduced_row 3457 g) ≡ product_mod 3457 n (reduced_row 3457 g) u
unfolding product_to
swapped n u g some lu lg =
    ap numbers (product-comm field n some (residues 3456 u) (residues 3456 (reduced_row 3457 g)) (length-map u (reduced 3456) ∙ lu)
    (length-map (reduced_row 3457 g) (reduced 3456) ∙ length-map g (residue 3457) ∙ lg))

-- h times f is g
pub ties : (n : ℕ) (f g : List ℤ) (u h : List ℕ) → 0 < n → length f ≡ n → length g ≡ n → Inverts n f u → h ≡ product_mod 3457 n (reduced_row 3457 g) u
    → product_mod 3457 n h (reduced_row 3457 (secret f)) ≡ reduced_row 3457 g
unfolding product_to
ties n f g u h some lf lg i e =
    ap (λ (x : List ℕ). numbers (product field n (residues 3456 x) (secret_row f))) e
    ∙ ap (λ (x : List F). numbers (product field n x (secret_row f))) (residues-numbers 3456 (product field n G U))
    ∙ ap numbers (product-assoc field n some G U (secret_row f) lG (length-map u (reduced 3456) ∙ i.long) (length_row f ∙ lf)
    ∙ ap (product field n G) (numbers-same 3456 (product field n U (secret_row f)) (unit field n) i.one)
    ∙ product-unit field n some G lG)
    ∙ numbers-residues 3456 (reduced_row 3457 g) (reduced-all_below 3457 g (omega arith))
  where
    G : List F
    G = residues 3456 (reduced_row 3457 g)

    U : List F
    U = residues 3456 u

    lG : length G ≡ n
    lG = length-map (reduced_row 3457 g) (reduced 3456) ∙ length-map g (residue 3457) ∙ lg

-- what holds of the error holds of the answer
pub at_err : {T E : Type 0} (P : T → Type 0) (Q : E → Type 0) (r : Result T E) (e : E) → r ≡ Err e → Q e → MatchResult r P Q
at_err {T} {E} P Q r e p q = subst (λ (x : Result T E). MatchResult x P Q) (sym p) q
