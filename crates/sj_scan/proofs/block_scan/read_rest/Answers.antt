-- The last block: its first bytes are the text's, and the others are spaces.
use Rattle.std.proofs.Common.{◌≡◌, ◌+◌, ◌-◌, ◌<◌, ◌||◌, ◌++◌, All, length, drop, filter, sym, ap, ap₂, subst, ◌∙◌, arith}
use Rattle.std.specs.List.{range_with_len, list_any}
use Rattle.std.proofs.lemmas.List.Elements.{All-filter}
use Rattle.sj_scan.specs.Positions.{before, is_odd, real_quotes, is_position, is_position_at}
use Rattle.sj_scan.specs.Scan.{is_control, is_control_at}
use Rattle.sj_scan.specs.inside.Blocks.{before_in, filled_up}
use Rattle.sj_scan.proofs.Places.{before-all}
use Rattle.sj_scan.proofs.Walks.{filter-range, list_any-range, or-zero, IsFilled-rest, set_places-is, any_set-is, real_quotes-end, is_position-space, is_control-space, All-range, length-filter_range}
use Rattle.sj_scan.proofs.block_scan.read_rest.Goals as goal

pub push_each_place-requires-clause-room : goal.push_each_place-requires-clause-room
push_each_place-requires-clause-room c =
    let bytes = c.args.bytes.now in
    let at = c.args.walk.at in
    let block = filled_up (drop at bytes) in
    let walked = c.requires.walked in
    let filled = IsFilled-rest bytes at walked.within c.requires.rest.1 in
    let marked = ap length (set_places-is bytes block at (length bytes - at) filled is_position is_position-space c.masks.result.0.positions (c.masks.ensures.positions (before bytes at) block walked.carry c.classify_rest-is_utf8.ensures.classes)) in
    let most = length-filter_range (is_position_at bytes) at (length bytes - at) in
    let earlier = length-filter_range (is_position_at bytes) 0 at in
    let found = ap length walked.positions in
    omega arith

pub push_each_place-requires-clause-fits : goal.push_each_place-requires-clause-fits
push_each_place-requires-clause-fits c =
    let bytes = c.args.bytes.now in
    let at = c.args.walk.at in
    let block = filled_up (drop at bytes) in
    let walked = c.requires.walked in
    let filled = IsFilled-rest bytes at walked.within c.requires.rest.1 in
    let marked = set_places-is bytes block at (length bytes - at) filled is_position is_position-space c.masks.result.0.positions (c.masks.ensures.positions (before bytes at) block walked.carry c.classify_rest-is_utf8.ensures.classes) in
    let fits = All-filter (is_position_at bytes) (λ place. place < 4294967296) (range_with_len at (length bytes - at)) (All-range at (length bytes - at) 4294967296 (omega arith)) in
    subst (All (λ place. place < 4294967296)) (sym marked) fits

pub returns-clause-positions : goal.returns-clause-positions
returns-clause-positions c =
    let bytes = c.args.bytes.now in
    let at = c.args.walk.at in
    let block = filled_up (drop at bytes) in
    let walked = c.requires.walked in
    let within = walked.within in
    let all : at + (length bytes - at) ≡ length bytes = omega arith in
    let filled = IsFilled-rest bytes at walked.within c.requires.rest.1 in
    let marked = set_places-is bytes block at (length bytes - at) filled is_position is_position-space c.masks.result.0.positions (c.masks.ensures.positions (before bytes at) block walked.carry c.classify_rest-is_utf8.ensures.classes) in
    c.push_each_place.ensures.items ∙ ap₂ (λ xs ys. xs ++ ys) walked.positions marked ∙ filter-range (is_position_at bytes) at (length bytes - at)
    ∙ ap (λ n. filter (is_position_at bytes) (range_with_len 0 n)) all

pub returns-clause-end : goal.returns-clause-end
returns-clause-end c =
    let bytes = c.args.bytes.now in
    let at = c.args.walk.at in
    let block = filled_up (drop at bytes) in
    let walked = c.requires.walked in
    let within = walked.within in
    let all : at + (length bytes - at) ≡ length bytes = omega arith in
    let classes = c.classify_rest-is_utf8.ensures.classes in
    let filled = IsFilled-rest bytes at walked.within c.requires.rest.1 in
    let controlled = any_set-is bytes block at (length bytes - at) filled is_control is_control-space c.masks.result.0.controls (c.masks.ensures.controls (before bytes at) block walked.carry classes) in
    let quotes = real_quotes-end bytes block at (length bytes - at) filled ∙ ap (λ n. real_quotes (before bytes n)) all ∙ ap real_quotes (before-all bytes) in
    record {
      utf8 = c.classify_rest-is_utf8.ensures.utf8;
      inside = c.is_inside.ensures (before_in (before bytes at) block 64) (c.masks.ensures.carry (before bytes at) block walked.carry classes) ∙ ap is_odd quotes;
      control =
          or-zero c.args.walk.controls c.masks.result.0.controls ∙ ap₂ (λ x y. x || y) walked.control controlled ∙ list_any-range (is_control_at bytes) at (length bytes - at)
          ∙ ap (λ n. list_any (is_control_at bytes) (range_with_len 0 n)) all;
    }
