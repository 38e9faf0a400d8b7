-- `word::good_events` meets its contract: what is to be found from event i on is what is to be found in all.
use Rattle.word.specs.Answers.{Passed}
use Rattle.word.proofs.good_events.Given as goal

abbrev pub invariant-loop-i : goal.invariant-loop-i
invariant-loop-i l = Passed l.symbol_count l.events.symbols.now l.events.stamps.now l.i l.last.0
