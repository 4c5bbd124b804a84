-- The rows of a key, as long as its degree.
use Rattle.std.specs.Prelude.{ℕ, List, take, ℤ}
use Rattle.keying.specs.declared.key.Key.{Key}

abbrev pub f_of : Key → List ℤ
f_of key = take key.degree key.f

abbrev pub g_of : Key → List ℤ
g_of key = take key.degree key.g

abbrev pub h_of : Key → List ℕ
h_of key = take key.degree key.h
