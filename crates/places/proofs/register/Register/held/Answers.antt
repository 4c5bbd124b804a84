use Rattle.std.proofs.Common.{◌≡◌, length, arith, rules}
use Rattle.places.proofs.BookLaws.{held_is}
use Rattle.places.proofs.register.Register.held.Goals as goal

pub returns : goal.returns
returns c =
    let l : length c.args.self.now.places ≡ 8 = search rules in
    held_is c.args.self.now.key.degree c.args.self.now.places c.args.place _ (omega arith) c.if-place-gt7.false
