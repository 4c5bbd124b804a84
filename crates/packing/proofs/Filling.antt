-- A buffer that is filled with the digits of a number, lowest first.
use Rattle.std.proofs.Common.{◌≡◌, ℕ, suc, ◌+◌, ◌-◌, ◌/◌, ◌%◌, ◌<◌, ◌≤◌, List, [], ◌∷◌, ◌++◌, length, take, set, sym, ap, ◌∙◌, ap₂, arith}
use Rattle.std.proofs.lemmas.List.{append_assoc, append-nil, length-set, take_more_set, take_all}
use Rattle.packing.specs.Digits.{digits}

-- the places before `next` hold the low digits of `whole`, and `rest` has the digits still to come
unfoldable pub Filling : ℕ → List ℕ → ℕ → ℕ → ℕ → Type 0
Filling b out next rest whole = take next out ++ digits b (length out - next) rest ≡ digits b (length out) whole

pub fill_none : (b : ℕ) (out : List ℕ) (whole : ℕ) → Filling b out 0 whole whole
unfolding Filling
fill_none b out whole = ap (λ k. digits b k whole) (let e : length out - 0 ≡ length out = omega arith in e)

pub fill_more : (b : ℕ) (out : List ℕ) (next rest rest' whole x : ℕ) → next < length out → x ≡ rest % b → rest' ≡ rest / b
    → Filling b out next rest whole → Filling b (set out next x) (next + 1) rest' whole
unfolding Filling digits
fill_more b out next rest rest' whole x within x-is rest_is so_far =
    let same = length-set out next x in
    let left = length out - (next + 1) in
    let one : length out - next ≡ suc left = omega arith in
    ap₂ (λ front k. front ++ digits b (k - (next + 1)) rest') (take_more_set out next x within) same
    ∙ append_assoc (take next out) (x ∷ []) (digits b left rest')
    ∙ ap₂ (λ d r. take next out ++ (d ∷ digits b left r)) x-is rest_is
    ∙ ap (λ k. take next out ++ digits b k rest) (sym one)
    ∙ so_far
    ∙ ap (λ k. digits b k whole) (sym same)

pub fill_all : (b : ℕ) (out : List ℕ) (next rest whole : ℕ) → length out ≤ next → Filling b out next rest whole → out ≡ digits b (length out) whole
unfolding Filling digits
fill_all b out next rest whole over so_far =
    let none : length out - next ≡ 0 = omega arith in
    sym (append-nil out)
    ∙ ap (λ front. front ++ []) (sym (take_all next out over))
    ∙ ap (λ k. take next out ++ digits b k rest) (sym none)
    ∙ so_far
