use Rattle.std.proofs.Common.{◌-◌, length}
use Rattle.listing.proofs.walk.tell_advances.Given as goal

abbrev pub decreases-loop-n : goal.decreases-loop-n
decreases-loop-n g l = (g.T.Table.means.bounds l.t).total - length (g.T.Table.means.rows l.t)
