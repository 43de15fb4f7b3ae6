use Rattle.std.proofs.lemmas.Grind.{common_steps}
use borrow.Rule.Slice.PartMut.{put_mid}
use Rattle.std.specs.Prelude.{◌≡◌, ℕ, ◌+◌, ◌-◌, List, [], ◌++◌, take, drop, length}
use Rattle.std.proofs.Common.{◌∙◌, ap, arith, append-nil, length-drop}
use Rattle.std.proofs.lemmas.List.{take_rest, drop_all}
use Rattle.sj_parse.proofs.Decoding.{decoding_starts, decoding_run, decoding_escape, escape_fits}
use Rattle.sj_parse.proofs.strings.decode_from.Goals as goal

pub loop-read-init : goal.loop-read-init
loop-read-init c = decoding_starts c.args.place c.args.first c.args.body.now c.requires.within c.requires.none

pub loop-read-preserved : goal.loop-read-preserved
loop-read-preserved c =
    let body = c.loop-read.body in
    let rest = take_rest body c.loop-read.read in
    let run = rw rest at c.run_len-plain.ensures in
    let within = run.within in
    let left = length-drop c.loop-read.read body in
    rw c.copy_within.ensures.after
    (decoding_run c.args.place c.loop-read.read c.loop-read.written c.run_len-plain.result c.args.body.now body c.loop-read.invariant (omega (arith, c.loop-read-test.true)) run.none)

pub overflow_add-read-then-body-read-eq92 : goal.overflow_add-read-then-body-read-eq92
overflow_add-read-then-body-read-eq92 c =
    let rest = take_rest c.loop-read.body (c.loop-read.read + 1) in
    let read = rw rest at c.in-Ok.ensures in
    let fits = escape_fits (drop (c.loop-read.read + 1) c.loop-read.body) c.in-Ok.escaped.len read.0 in
    let within = fits.within in
    let left = length-drop (c.loop-read.read + 1) c.loop-read.body in
    let place = c.requires.place in
    let same = c.loop-read.invariant.same_length in
    omega arith

pub overflow_add-read-then-body-read-eq92-2 : goal.overflow_add-read-then-body-read-eq92-2
overflow_add-read-then-body-read-eq92-2 c =
    let rest = take_rest c.loop-read.body (c.loop-read.read + 1) in
    let read = rw rest at c.in-Ok.ensures in
    let fits = escape_fits (drop (c.loop-read.read + 1) c.loop-read.body) c.in-Ok.escaped.len read.0 in
    let within = fits.within in
    let left = length-drop (c.loop-read.read + 1) c.loop-read.body in
    let place = c.requires.place in
    let same = c.loop-read.invariant.same_length in
    omega arith

-- what a write to the end of a list leaves
written_rest : (a : ℕ) (xs ys : List ℕ) → put_mid a (length xs - a) xs ys ≡ take a xs ++ ys
written_rest a xs ys =
    let left = length-drop a xs in
    let none : drop (length xs - a) (drop a xs) ≡ [] = drop_all (length xs - a) (drop a xs) (omega arith) in
    ap (λ (zs : List ℕ). take a xs ++ (ys ++ zs)) none ∙ ap (λ (zs : List ℕ). take a xs ++ zs) (append-nil ys)

pub loop-read-preserved-then-body-read-eq92 : goal.loop-read-preserved-then-body-read-eq92
loop-read-preserved-then-body-read-eq92 c =
    let rest = take_rest c.loop-read.body (c.loop-read.read + 1) in
    let read = rw rest at c.in-Ok.ensures in
    let left = take_rest c.loop-read.body c.loop-read.written in
    let written = rw left at c.write_character-written.ensures.written in
    rw (written_rest c.loop-read.written c.loop-read.body c.write_character-written.new.out, written, c.write_character-written.ensures.len)
    (decoding_escape c.args.place c.loop-read.read c.loop-read.written c.args.body.now c.loop-read.body c.loop-read.invariant c.loop-read-test.true c.if-body-read-eq92.true c.in-Ok.escaped.len c.in-Ok.escaped.character read.0 read.1)

pub returns-in-Err : goal.returns-in-Err
returns-in-Err c = grind (arith, common_steps)
