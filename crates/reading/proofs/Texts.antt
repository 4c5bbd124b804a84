-- The words of a text are texts.
use Rattle.std.proofs.Common.{◌≡◌, ℕ, suc, ◌<◌, ◌≤◌, Bool, true, false, List, [], ◌∷◌, ◌++◌, length, get_or, sym, refl, ap, ◌∙◌, subst, arith, append-nil, ⊎_elim}
use Rattle.std.proofs.Math.Utf8.{encode, encodes, scalar, scalars}
use Rattle.std.proofs.lemmas.Bool.{and_parts, cases_lt}
use Rattle.std.proofs.lemmas.Bool.Decides.{nat_tests}
use Rattle.std.proofs.lemmas.List.Elements.{All-nil, All-cons}
use Rattle.std.proofs.lemmas.Str.{IsUtf8-nil, IsUtf8-append, IsUtf8-encode, encode_ascii, inside_one}
use Rattle.std.specs.Char.{IsScalar}
use Rattle.std.specs.List.{All}
use Rattle.std.specs.Str.{IsUtf8}
use Rattle.reading.specs.Cuts.{white, onto, parts_of}
use Rattle.reading.specs.Lines.{filled, words_of}

-- no byte before i separates
abbrev Whole : (ℕ → Bool) → List ℕ → ℕ → Type 0
Whole p text i = (k : ℕ) → k < i → p (get_or text k 0) ≡ false

abbrev Texts : List (List ℕ) → Type 0
Texts [] = Unit {0}
Texts (part ∷ parts) = IsUtf8 part × Texts parts

-- some bytes in front of the first part
abbrev fronted : List ℕ → List (List ℕ) → List (List ℕ)
fronted bytes [] = []
fronted bytes (part ∷ parts) = (bytes ++ part) ∷ parts

fronted_none : (parts : List (List ℕ)) → parts ≡ fronted [] parts
fronted_none [] = refl
fronted_none (part ∷ parts) = refl

fronted_more : (byte : ℕ) (bytes : List ℕ) (parts : List (List ℕ)) → onto byte (fronted bytes parts) ≡ fronted (byte ∷ bytes) parts
fronted_more byte bytes [] = refl
fronted_more byte bytes (part ∷ parts) = refl

-- bytes that do not separate stand in front of the first part of what follows
parts_front : (p : ℕ → Bool) (bytes rest : List ℕ) → Whole p bytes (length bytes) → parts_of p (bytes ++ rest) ≡ fronted bytes (parts_of p rest)
unfolding parts_of
parts_front p [] rest whole = fronted_none (parts_of p rest)
parts_front p (byte ∷ bytes) rest whole =
    let none : p byte ≡ false = whole 0 (omega arith) in
    rw none (ap (onto byte) (parts_front p bytes rest (λ k less. whole (suc k) (omega arith))) ∙ fronted_more byte bytes (parts_of p rest))

fronted_text : (bytes : List ℕ) (parts : List (List ℕ)) → IsUtf8 bytes → Texts parts → Texts (fronted bytes parts)
fronted_text bytes [] b t = tt
fronted_text bytes (part ∷ parts) b t = (IsUtf8-append bytes part b t.0, t.1)

white_low : (byte : ℕ) → 128 ≤ byte → white byte ≡ false
white_low byte high = grind (arith, nat_tests)

-- no byte of a character beyond ASCII is white space
whole_char : (c : ℕ) → 128 ≤ c → Whole white (encode c) (length (encode c))
whole_char c high k less = ⊎_elim
    (λ low. let same : c ≡ get_or (encode c) k 0 = inside_one c [] (encode c) k (sym (append-nil (encode c))) less low in absurd (omega arith))
    (λ above. white_low (get_or (encode c) k 0) above)
    (cases_lt (get_or (encode c) k 0) 128)

-- one byte that is a character by itself
low_char : (c : ℕ) (rest : List ℕ) (b : Bool) → white c ≡ b → IsUtf8 (c ∷ []) → Texts (parts_of white rest) → Texts (parts_of white (c ∷ rest))
unfolding parts_of
low_char c rest true e u t = rw e (IsUtf8-nil, t)
low_char c rest false e u t =
    rw e (subst Texts (sym (ap (onto c) (fronted_none (parts_of white rest)) ∙ fronted_more c [] (parts_of white rest))) (fronted_text (c ∷ []) (parts_of white rest) u t))

one_char : (c : ℕ) (rest : List ℕ) → IsScalar c → Texts (parts_of white rest) → Texts (parts_of white (encode c ++ rest))
one_char c rest scalar t = ⊎_elim
    (λ low.
    let e : encode c ≡ c ∷ [] = encode_ascii c low in
    let P : List ℕ → Type 0 = λ bytes. Texts (parts_of white (bytes ++ rest)) in
    subst P (sym e) (low_char c rest (white c) refl (subst IsUtf8 e (IsUtf8-encode c scalar)) t))
    (λ high. subst Texts (sym (parts_front white (encode c) rest (whole_char c high))) (fronted_text (encode c) (parts_of white rest) (IsUtf8-encode c scalar) t))
    (cases_lt c 128)

text_parts : (cs : List ℕ) → scalars cs ≡ true → Texts (parts_of white (encodes cs))
unfolding parts_of
text_parts [] s = (IsUtf8-nil, tt)
text_parts (c ∷ cs) s =
    let parts = and_parts (scalar c) (scalars cs) s in
    one_char c (encodes cs) parts.0 (text_parts cs parts.1)

filled_text : (parts : List (List ℕ)) → Texts parts → All IsUtf8 (filled parts)
filled_text [] t = All-nil IsUtf8
filled_text ([] ∷ parts) t = filled_text parts t.1
filled_text ((byte ∷ part) ∷ parts) t = All-cons IsUtf8 (byte ∷ part) (filled parts) t.0 (filled_text parts t.1)

pub words_are_text : (line : List ℕ) → IsUtf8 line → All IsUtf8 (words_of line)
words_are_text line u = subst (λ l. All IsUtf8 (words_of l)) u.1.1 (filled_text (parts_of white (encodes u.0)) (text_parts u.0 u.1.0))
