use Rattle.std.proofs.Common.{sym, ap, ◌∙◌, ap₂}
use Rattle.std.proofs.lemmas.List.{with_items_is}
use Rattle.ring.specs.Engines.{engine_answer, product_mod}
use Rattle.packing.specs.Answers.{pack_key_answer, unpack_key_answer}
use Rattle.packing.specs.Digits.{packed, unpacked}
use Rattle.sealing.specs.Sealing.{seal_answer, sealed, unseal_answer, unsealed}
use Rattle.session.specs.Said.{given, given_row}
use Rattle.session.specs.Tasks.{task_said}
use Rattle.session.proofs.Arms.{all_alike, packed_arm, product_arm, row_arm}
use Rattle.session.proofs.tasks.carry_out.Goals as goal

pub returns-in_ok-out-in-Seal : goal.returns-in_ok-out-in-Seal
returns-in_ok-out-in-Seal c =
    let x = c.in-Seal in
    let n = x.engine.degree in
    let m = x.engine.modulus in
    let key = c.as_slice.result.now in
    let noise = c.as_slice-in-Seal.result.now in
    let text = c.as_slice-in-Seal-2.result.now in
    let ws = c.seal-reply.new.out in
    let r = c.seal-reply.ensures in
    packed_arm _ c.seal-reply.result _ ws _
    (with_items_is c.in_ok-out-in-Seal.out ws (c.seal-reply.auto.out ∙ c.as_mut_slice.ensures.len))
    (sealed n x.width key noise text) c.answer.ensures r.writes
    ∙ ap (λ reply. given reply (sealed n x.width key noise text)) r.answers
    ∙ all_alike (λ k e t size. given (seal_answer n m x.width k e t size) (sealed n x.width k e t))
    c.as_slice.ensures.value c.as_slice-in-Seal.ensures.value c.as_slice-in-Seal-2.ensures.value
    (c.as_mut_slice.ensures.len ∙ c.in_ok-out-in-Seal.ensures.len)
    ∙ sym (ap task_said x.is)

pub returns-in_ok-out-in-Unseal : goal.returns-in_ok-out-in-Unseal
returns-in_ok-out-in-Unseal c =
    let x = c.in-Unseal in
    let n = x.engine.degree in
    let m = x.engine.modulus in
    let f = c.as_slice-in-Unseal.result.now in
    let bytes = c.as_slice-in-Unseal-2.result.now in
    let ws = c.unseal-reply.new.out in
    let r = c.unseal-reply.ensures in
    packed_arm _ c.unseal-reply.result _ ws _
    (with_items_is c.in_ok-out-in-Unseal.out ws (c.unseal-reply.auto.out ∙ c.as_mut_slice-in-Unseal.ensures.len))
    (unsealed n x.width f bytes) c.answer-in-Unseal.ensures r.writes
    ∙ ap (λ reply. given reply (unsealed n x.width f bytes)) r.answers
    ∙ ap (λ size. given (unseal_answer n m x.width f bytes size) (unsealed n x.width f bytes))
    (c.as_mut_slice-in-Unseal.ensures.len ∙ c.in_ok-out-in-Unseal.ensures.len)
    ∙ ap₂ (λ s b. given (unseal_answer n m x.width s b x.length) (unsealed n x.width s b))
    c.as_slice-in-Unseal.ensures.value c.as_slice-in-Unseal-2.ensures.value
    ∙ sym (ap task_said x.is)

pub returns-in_ok-out-in-Pack : goal.returns-in_ok-out-in-Pack
returns-in_ok-out-in-Pack c =
    let x = c.in-Pack in
    let row = c.as_slice-in-Pack.result.now in
    let ws = c.pack_key-reply.new.out in
    let r = c.pack_key-reply.ensures in
    packed_arm _ c.pack_key-reply.result _ ws _
    (with_items_is c.in_ok-out-in-Pack.out ws (c.pack_key-reply.auto.out ∙ c.as_mut_slice-in-Pack.ensures.len))
    (packed 12 row) c.answer-in-Pack.ensures r.writes
    ∙ ap (λ reply. given reply (packed 12 row)) r.answers
    ∙ ap₂ (λ entries size. given (pack_key_answer x.degree entries size) (packed 12 entries))
    c.as_slice-in-Pack.ensures.value (c.as_mut_slice-in-Pack.ensures.len ∙ c.in_ok-out-in-Pack.ensures.len)
    ∙ sym (ap task_said x.is)

pub returns-in_ok-out-in-Unpack : goal.returns-in_ok-out-in-Unpack
returns-in_ok-out-in-Unpack c =
    let x = c.in-Unpack in
    let bytes = c.as_slice-in-Unpack.result.now in
    let ws = c.unpack_key-reply.new.out in
    let r = c.unpack_key-reply.ensures in
    row_arm _ c.unpack_key-reply.result _ ws _
    (with_items_is c.in_ok-out-in-Unpack.out ws (c.unpack_key-reply.auto.out ∙ c.as_mut_slice-in-Unpack.ensures.len))
    (unpacked 12 x.degree bytes) c.answer-in-Unpack.ensures r.writes
    ∙ ap (λ reply. given_row reply (unpacked 12 x.degree bytes)) r.answers
    ∙ ap₂ (λ b size. given_row (unpack_key_answer x.degree b size) (unpacked 12 x.degree b))
    c.as_slice-in-Unpack.ensures.value (c.as_mut_slice-in-Unpack.ensures.len ∙ c.in_ok-out-in-Unpack.ensures.len)
    ∙ sym (ap task_said x.is)

pub returns-in_ok-out-in-Multiply : goal.returns-in_ok-out-in-Multiply
returns-in_ok-out-in-Multiply c =
    let x = c.in-Multiply in
    let n = x.engine.degree in
    let m = x.engine.modulus in
    let left = c.as_slice-in-Multiply.result.now in
    let right = c.as_slice-in-Multiply-2.result.now in
    let ws = c.multiply-reply.new.out in
    let r = c.multiply-reply.ensures in
    product_arm _ c.multiply-reply.result _ ws c.as_mut_slice-in-Multiply.result.now
    (with_items_is c.in_ok-out-in-Multiply.out ws (c.multiply-reply.auto.out ∙ c.as_mut_slice-in-Multiply.ensures.len))
    n m left right c.answer-in-Multiply.ensures r.answers r.writes
    ∙ ap (λ size. given_row (engine_answer n m left right size) (product_mod m n left right))
    (c.as_mut_slice-in-Multiply.ensures.len ∙ c.in_ok-out-in-Multiply.ensures.len)
    ∙ ap₂ (λ a b. given_row (engine_answer n m a b x.length) (product_mod m n a b))
    c.as_slice-in-Multiply.ensures.value c.as_slice-in-Multiply-2.ensures.value
    ∙ sym (ap task_said x.is)
