use Rattle.std.proofs.Common.{◌≡◌}
use Rattle.keying.specs.Told.{Told}
use Rattle.custody.specs.Stations.{told_by}
use Rattle.places.specs.Views.{book}
use Rattle.custody.proofs.Exchanging.{Going}
use Rattle.custody.proofs.station.Station.carry_out.Given as goal

abbrev pub invariant-loop-x : goal.invariant-loop-x
invariant-loop-x g l =
    let was = l.initial.self in
    let told : Told = told_by g.P.RingEngine g.Q.RingEngine was in
    (l.self.register.key ≡ was.register.key)
    × (told_by g.P.RingEngine g.Q.RingEngine l.self ≡ told)
    × Going was.register.key told (book was.register) l.initial.exchanges l.x-index (book l.self.register) l.exchanges
