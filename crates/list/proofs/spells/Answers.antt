use Rattle.std.proofs.Common.{◌∙◌}
use Rattle.rows.proofs.Chunks.{spelled_same}
use Rattle.list.proofs.spells.Goals as goal

pub returns : goal.returns
returns c = c.eq.ensures ∙ spelled_same c.args.words.now c.args.r.now c.told-words
