use Rattle.sj_base.proofs.buffer.TextBuffer.into_vec.Goals as goal

pub returns : goal.returns
returns c = cc
