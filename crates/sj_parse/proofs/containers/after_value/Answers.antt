-- The frame on top is that of the innermost container.
use Rattle.std.specs.Prelude.{◌≡◌, if◌then◌else◌, List, ℕ, suc, ◌-◌, ◌<◌, [], ◌∷◌, ◌++◌, length, take, slice_set, slice_index_or}
use Rattle.std.proofs.Common.{refl, sym, ap, ap₂, ◌∙◌, arith, take-suc, take_all, length-take-le}
use Rattle.std.proofs.Math.Seq.{set-append_seam}
use Rattle.sj_parse.specs.declared.containers.Frame.{Frame}
use Rattle.sj_parse.specs.declared.stage_two.State.TheVariants.{ItemEnd, MemberEnd}
use Rattle.sj_parse.proofs.OpenContainers.{after_value-stack, after_value-state, frame_len}
use Rattle.sj_parse.proofs.containers.after_value.Goals as goal

-- The stack, and the frame on top.
module _ (frames : List Frame) (n : ℕ) (f : Frame) (long : n ≡ length frames) (some : 0 < n) (is : f ≡ slice_index_or frames (n - 1) f) where
  rest : List Frame
  rest = take (n - 1) frames

  on_top : frames ≡ rest ++ f ∷ []
  unfolding rest
  on_top =
      let all : suc (n - 1) ≡ length frames = omega (arith, long, some) in
      sym (take_all (suc (n - 1)) frames (omega (arith, all))) ∙ take-suc frames (n - 1) f (omega (arith, all))
      ∙ ap (λ (g : Frame). take (n - 1) frames ++ g ∷ []) (sym is)

  replaced : (g : Frame) → slice_set frames (n - 1) g ≡ rest ++ g ∷ []
  unfolding rest
  replaced g =
      let few : length (take (n - 1) frames) ≡ n - 1 = length-take-le (n - 1) frames (omega (arith, long)) in
      ap₂ (λ (fs : List Frame) (i : ℕ). slice_set fs i g) on_top (sym few) ∙ set-append_seam (take (n - 1) frames) f [] g

pub overflow_add-frame : goal.overflow_add-frame
overflow_add-frame c =
    let top = on_top c.args.stack.now.items _ c.in-Some.frame.now c.args.stack.now.ok.0 (c.in-Some.ensures.variant.0 refl) c.in-Some.ensures.value in
    let small = frame_len c.requires.0 _ c.in-Some.frame.now (sym c.requires.1 ∙ top) in
    let fits = c.requires.2 in omega arith

pub returns-then-frame-clause-state : goal.returns-then-frame-clause-state
returns-then-frame-clause-state c = λ ws t is.
    let top = on_top c.args.stack.now.items _ c.in-Some.frame.now c.args.stack.now.ok.0 (c.in-Some.ensures.variant.0 refl) c.in-Some.ensures.value in
    sym (ap (λ b. if b then MemberEnd else ItemEnd) c.if-frame.true) ∙ after_value-state ws t _ c.in-Some.frame.now (sym is ∙ top)

pub returns-then-frame-clause-stack : goal.returns-then-frame-clause-stack
returns-then-frame-clause-stack c = λ ws t is.
    let top = on_top c.args.stack.now.items _ c.in-Some.frame.now c.args.stack.now.ok.0 (c.in-Some.ensures.variant.0 refl) c.in-Some.ensures.value in
    replaced c.args.stack.now.items _ c.in-Some.frame.now c.args.stack.now.ok.0 (c.in-Some.ensures.variant.0 refl) c.in-Some.ensures.value _ ∙ after_value-stack ws t _ c.in-Some.frame.now (sym is ∙ top)

pub returns-else-frame-clause-state : goal.returns-else-frame-clause-state
returns-else-frame-clause-state c = λ ws t is.
    let top = on_top c.args.stack.now.items _ c.in-Some.frame.now c.args.stack.now.ok.0 (c.in-Some.ensures.variant.0 refl) c.in-Some.ensures.value in
    sym (ap (λ b. if b then MemberEnd else ItemEnd) c.if-frame.false) ∙ after_value-state ws t _ c.in-Some.frame.now (sym is ∙ top)

pub returns-else-frame-clause-stack : goal.returns-else-frame-clause-stack
returns-else-frame-clause-stack c = λ ws t is.
    let top = on_top c.args.stack.now.items _ c.in-Some.frame.now c.args.stack.now.ok.0 (c.in-Some.ensures.variant.0 refl) c.in-Some.ensures.value in
    replaced c.args.stack.now.items _ c.in-Some.frame.now c.args.stack.now.ok.0 (c.in-Some.ensures.variant.0 refl) c.in-Some.ensures.value _ ∙ after_value-stack ws t _ c.in-Some.frame.now (sym is ∙ top)
