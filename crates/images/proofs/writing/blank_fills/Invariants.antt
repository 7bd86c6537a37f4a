use Rattle.std.proofs.Common.{◌≡◌, ◌++◌, take, drop}
use Rattle.images.specs.Drafts.{fills_blanked}
use Rattle.images.proofs.writing.blank_fills.Given as goal

abbrev pub invariant-loop-b : goal.invariant-loop-b
invariant-loop-b l = take l.b-index l.columns ++ fills_blanked (drop l.b-index l.columns) ≡ fills_blanked l.initial.columns
