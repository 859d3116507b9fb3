-- What has been read and what is left have the numbers of the text from the place on.
use Rattle.std.proofs.Common.{◌≡◌, ◌<◌, drop}
use Rattle.asking.specs.Request.{numbers_from}
use Rattle.request.proofs.number_at.Given as goal

abbrev pub invariant-loop-at : goal.invariant-loop-at
invariant-loop-at l =
    record {
      small : l.value < 1000;
      numbers : numbers_from 0 (drop l.from l.text) ≡ numbers_from l.value (drop l.at l.text);
    }
