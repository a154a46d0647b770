use native.Mathlib.Omega.{arith}
use Rattle.tables.specs.Laws.Book.{schema-length}
use Rattle.tables.specs.Laws.World.{known-types}
use Rattle.filter_matchable.specs.Laws.Matchable.{types-full}
use Rattle.filter_matchable.specs.Laws.Candidate.{searched-known}
use Rattle.filter_matchable.proofs.matchable.ask.Goals as goal

pub matchable_types-requires : goal.matchable_types-requires
matchable_types-requires c = let C = c.requires in known-types (searched-known C.search) _ (omega (arith, C.within)) _ (omega arith)

pub returns : goal.returns
returns c = λ σ es w. record { types-matchable = types-full σ es c.args.book.now c.args.k c.args.extent.ranks c.matchable_types.result w.entries.fits (c.matchable_types.ensures σ es c.args.d.now c.args.p.now c.args.book.now c.args.held.now w (omega (arith, c.requires.within, w.entries.count)) (omega (arith, schema-length w.entries.fits))); values-matchable = c.matchable_values.ensures σ es w }
