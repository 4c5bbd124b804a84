use Rattle.std.proofs.Common.{refl}
use Rattle.places.proofs.BookLaws.{book-set}
use Rattle.places.proofs.register.Register.fill.Goals as goal

pub returns : goal.returns
returns c = (refl, book-set _ _ _ _)
