use Rattle.std.proofs.Common.{ℕ, ◌+◌, ◌≤◌, mul-le-mul, arith}
use Rattle.code.specs.Roots.{root_up}
use Rattle.code.proofs.RootLaws.{root_least, root_unique}
use Rattle.code.proofs.root.root_up.Goals as goal

pub returns-then-root-s : goal.returns-then-root-s
returns-then-root-s c =
    let r : ℕ = c.isqrt-root.result in
    root_unique c.args.s (r + 1) (root_up c.args.s)
    (record { enough = omega (arith, c.isqrt-root.ensures.next_square_gt); least = λ j h. let le : j ≤ r = omega arith in omega (arith, c.if-root-s.true, mul-le-mul le le) })
    (root_least c.args.s)

pub returns-else-root-s : goal.returns-else-root-s
returns-else-root-s c =
    let r : ℕ = c.isqrt-root.result in
    root_unique c.args.s r (root_up c.args.s)
    (record { enough = omega (arith, c.if-root-s.false); least = λ j h. let le : j + 1 ≤ r = omega arith in omega (arith, c.isqrt-root.ensures.square_le, mul-le-mul le le) })
    (root_least c.args.s)
