-- The loop of Euclid's algorithm over the residues modulo 3457.
use Rattle.std.proofs.Common.{◌≡◌, ℕ, zero, suc, ◌+◌, ◌-◌, ◌<◌, ◌≤◌, true, false, cond, List, [], ◌∷◌, ◌++◌, length, is_some as option_is_some, Some, None, Option, sym, refl, ap, ◌∙◌, subst, inl, inr, arith}
use Rattle.std.proofs.lemmas.Bool.{cases_lt}
use Rattle.ring.specs.Rows.{zeros, unit, modulus_row}
use Rattle.inversion.specs.Places.{at, Below, Leads}
use Rattle.inversion.specs.Leading.{F, field, leading}
use Rattle.inversion.specs.Division.{divided}
use Rattle.inversion.specs.Euclid.{reciprocal, remainder, cofactor, sequence, remainders, last_of}
use Rattle.inversion.proofs.Chains.{Chain}
use Rattle.inversion.proofs.Highest.{leads_leading, leading-some}
use Rattle.inversion.proofs.Chains as c
use Rattle.inversion.proofs.Remainders.{reciprocal-inverts, domain, one-some, remainder_is, cofactor_is}

-- how far a remainder is from zero: one more than its degree, or 0
abbrev pub height : Option ℕ → ℕ
height None = 0
height (Some p) = suc p

-- the loop keeps the two pairs, and has the rest of the remainder sequence before it
pub record Running (f : List F) (upper upper-cofactor lower lower-cofactor : List F) : Type 0 where
  pub top : ℕ
  pub steps : ℕ
  pub chain : Chain field (length f) f top upper upper-cofactor lower lower-cofactor
  pub low : Below field steps lower
  pub rest : last_of upper (sequence steps upper lower) ≡ last_of (modulus_row field (length f)) (remainders (length f) f)

pub run_starts : (f : List F) → 0 < length f → Running f (modulus_row field (length f)) (zeros field (length f + 1)) (f ++ zeros field 1) (unit field (length f + 1))
unfolding remainders
run_starts f some =
    let start = c.start field (length f) some f refl one-some in
    record { top = length f; steps = length f; chain = start; low = start.lower_below; rest = refl }

-- an option that is there has a value
pub is_some : (o : Option ℕ) → option_is_some o ≡ true → (p : ℕ) × (o ≡ Some p)
is_some None e = absurd (let z : ◌≡◌ {A = ℕ} 0 1 = cc in omega arith)
is_some (Some p) e = (p, refl)

pub is_none : (o : Option ℕ) → option_is_some o ≡ false → o ≡ None
is_none None e = refl
is_none (Some p) e = absurd (let z : ◌≡◌ {A = ℕ} 0 1 = cc in omega arith)

height-low : (row : List F) (q : ℕ) (o : Option ℕ) → leading row ≡ o → Below field q row → height o ≤ q
height-low row q None e h = omega arith
height-low row q (Some p) e h =
    elim (cases_lt p q) [ inl lt ↦ omega arith | inr ge ↦ absurd ((leading-some row p e).1.some (h p ge)) ]

module _ (f a v b w : List F) (some : 0 < length f) (h : Running f a v b w) (q : ℕ) (qb : leading b ≡ Some q) where
  leads : Leads field q b
  leads = (leading-some b q qb).1

  next_chain : Chain field (length f) f q b w (remainder a b) (cofactor a v b w)
  next_chain =
      let pa = leads_leading a h.top h.chain.upper_leads in
      let inverts = reciprocal-inverts (at field b q) leads.some in
      subst (λ (x : List F). Chain field (length f) f q b w x (cofactor a v b w)) (sym (remainder_is a b h.top q (reciprocal (at field b q)) pa qb leads inverts))
      (subst (λ (x : List F). Chain field (length f) f q b w (divided field a b (reciprocal (at field b q)) q (suc h.top - q)) x)
      (sym (cofactor_is a b h.top q (reciprocal (at field b q)) pa qb leads inverts v w))
      (c.next field (length f) some f refl domain h.top q a v b w (reciprocal (at field b q)) h.chain leads inverts))

  -- the member b is passed
  passed : (k : ℕ) → Below field k b → (j : ℕ) × (Below field j (remainder a b)) × (last_of a (sequence k a b) ≡ last_of b (sequence j b (remainder a b)))
  unfolding sequence last_of
  passed zero low = absurd (leads.some (low q (omega arith)))
  passed (suc j) low = (
    j,
    λ i g. elim (cases_lt q (suc j)) [ inl lt ↦ next_chain.lower_below i (omega arith) | inr ge ↦ absurd (leads.some (low q ge)) ],
    ap (λ o. last_of a (cond (option_is_some o) (b ∷ sequence j b (remainder a b)) [])) qb,
  )

  pub run_goes : Running f b w (remainder a b) (cofactor a v b w)
  run_goes =
      let p = passed h.steps h.low in
      record { top = q; steps = p.0; chain = next_chain; low = p.1; rest = sym p.2 ∙ h.rest }

  pub run_falls : height (leading (remainder a b)) < height (leading b)
  run_falls =
      let l : height (leading (remainder a b)) ≤ q = height-low (remainder a b) q (leading (remainder a b)) refl next_chain.lower_below in
      subst (λ (o : Option ℕ). height (leading (remainder a b)) < height o) (sym qb) (omega arith)

-- at the end the upper row is the last member
ended : (k : ℕ) (a b : List F) → leading b ≡ None → last_of a (sequence k a b) ≡ a
unfolding sequence last_of
ended zero a b e = refl
ended (suc k) a b e = ap (λ o. last_of a (cond (option_is_some o) (b ∷ sequence k b (remainder a b)) [])) e

pub run_ends : (f a v b w : List F) (h : Running f a v b w) → leading b ≡ None → a ≡ last_of (modulus_row field (length f)) (remainders (length f) f)
run_ends f a v b w h e = sym (ended h.steps a b e) ∙ h.rest

-- the loop's rows by other names
pub run_moved : {f a a' v v' b b' w w' : List F} → a ≡ a' → v ≡ v' → b ≡ b' → w ≡ w' → Running f a v b w → Running f a' v' b' w'
run_moved {f} {a} {a'} {v} {v'} {b} {b'} {w} {w'} ea ev eb ew h =
    subst (λ (x : List F). Running f x v' b' w') ea (subst (λ (x : List F). Running f a x b' w') ev
    (subst (λ (x : List F). Running f a v x w') eb (subst (λ (x : List F). Running f a v b x) ew h)))
