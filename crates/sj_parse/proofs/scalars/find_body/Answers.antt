use Rattle.std.proofs.Common.{◌≡◌, ◌∙◌, ◌+◌, ◌++◌, ◌∷◌, take, drop, sym, ap, take-add, slice_index, arith}
use Rattle.std.proofs.lemmas.List.{append-nil, drop_more, take_rest}
use Rattle.sj_parse.specs.inside.Step.{string_body}
use Rattle.sj_parse.proofs.Bodies.{body-plain}
use Rattle.sj_parse.proofs.scalars.find_body.Goals as goal

-- behind its first bytes the body ends
pub returns-then-bytes-plain-eq34-clause-body : goal.returns-then-bytes-plain-eq34-clause-body
returns-then-bytes-plain-eq34-clause-body c =
    let plain = c.plain_len-plain.result in
    let bytes = c.args.bytes.now in
    let within = c.if-plain-bytes.true in
    let quote : slice_index bytes plain ≡ 0x22 = omega (arith, c.if-bytes-plain-eq34.true) in
    let rest : drop plain bytes ≡ 0x22 ∷ drop (plain + 1) bytes = drop_more bytes plain 0 (omega (arith, within)) ∙ ap (λ b. b ∷ drop (plain + 1) bytes) quote in
    sym (append-nil (take plain bytes)) ∙ ap (λ bs. take plain bytes ++ string_body bs) (sym rest)
    ∙ sym (body-plain plain bytes c.plain_len-plain.ensures.within c.plain_len-plain.ensures.plain)

pub returns-clause-body : goal.returns-clause-body
returns-clause-body c =
    let plain = c.plain_len-plain.result in
    let bytes = c.args.bytes.now in
    take-add plain c.body_len.result bytes ∙ ap (λ ys. take plain bytes ++ ys) (rw (take_rest bytes plain) at c.body_len.ensures.body)
    ∙ sym (body-plain plain bytes c.plain_len-plain.ensures.within c.plain_len-plain.ensures.plain)

pub returns-clause-plain : goal.returns-clause-plain
returns-clause-plain c = λ k h. (c.plain_len-plain.ensures.plain k h).1
