-- What a task away from drafts and stations is answered.
use Rattle.std.specs.Prelude.{vec_items}
use Rattle.ring.specs.Engines.{engine_answer, product_mod}
use Rattle.packing.specs.Answers.{pack_key_answer, unpack_key_answer}
use Rattle.packing.specs.Digits.{packed, unpacked}
use Rattle.sealing.specs.Sealing.{seal_answer, sealed, unseal_answer, unsealed}
use Rattle.script.specs.declared.task.Task.{Task}
use Rattle.script.specs.declared.task.Task.TheVariants.{Seal, Unseal, Pack, Unpack, Multiply}
use Rattle.session.specs.Said.{Said, given, given_row}

abbrev pub task_said : Task → Said
task_said (Seal engine width key noise message size) =
    given (seal_answer engine.degree engine.modulus width (vec_items key) (vec_items noise) (vec_items message) size)
    (sealed engine.degree width (vec_items key) (vec_items noise) (vec_items message))
task_said (Unseal engine width f sealed-bytes size) =
    given (unseal_answer engine.degree engine.modulus width (vec_items f) (vec_items sealed-bytes) size)
    (unsealed engine.degree width (vec_items f) (vec_items sealed-bytes))
task_said (Pack degree entries size) =
    given (pack_key_answer degree (vec_items entries) size) (packed 12 (vec_items entries))
task_said (Unpack degree packed-bytes size) =
    given_row (unpack_key_answer degree (vec_items packed-bytes) size) (unpacked 12 degree (vec_items packed-bytes))
task_said (Multiply engine left right size) =
    given_row (engine_answer engine.degree engine.modulus (vec_items left) (vec_items right) size)
    (product_mod engine.modulus engine.degree (vec_items left) (vec_items right))
