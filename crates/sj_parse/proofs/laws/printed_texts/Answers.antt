use Rattle.sj_parse.proofs.Documents.{fault_or_tree}
use Rattle.sj_parse.proofs.laws.printed_texts.Goals as goal

-- a text that spells a tree within the limit is a document
pub returns-clause-compact : goal.returns-clause-compact
returns-clause-compact c = λ t limit valid shallow short.
    (fault_or_tree _ limit).1 (t, record { short = short; spells = c.printing_reads_back.ensures.compact t valid; shallow = shallow })

pub returns-clause-indented : goal.returns-clause-indented
returns-clause-indented c = λ t limit valid shallow short.
    (fault_or_tree _ limit).1 (t, record { short = short; spells = c.printing_reads_back.ensures.indented t valid; shallow = shallow })
