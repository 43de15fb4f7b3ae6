use Rattle.sj_records.proofs.Shown.{no_line_feed}
use Rattle.sj_records.proofs.laws.no_line_feed.Goals as goal

pub returns : goal.returns
returns c = no_line_feed c.printed_bytes.ensures.one_line
