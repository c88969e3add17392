use Rattle.std.proofs.Common.{◌≡◌, rules}
use Rattle.facts.specs.Format.{mark}
use Rattle.listing.proofs.Texts.{mark_told}
use Rattle.listing.proofs.load.LoadedDisplay.fmt.Goals as goal

pub returns-clause-writes : goal.returns-clause-writes
returns-clause-writes g c =
    let relation = c.args.self.now.«record».row.relation in
    let m : c.mark_of-mark.result.now ≡ mark relation = mark_told relation c.mark_of-mark.result.now (search rules) (search rules) in
    rw (← m) (search rules)
