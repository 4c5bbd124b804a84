use Rattle.std.proofs.Common.{refl}
use Rattle.places.specs.Views.{book_of}
use Rattle.places.proofs.register.Register.new.Goals as goal

pub returns : goal.returns
unfolding book_of
returns c = record { key = refl; places = refl }
