-- A record that no row has.
-- Assumes nothing.
use Rattle.answers.specs.declared.Record.{Record}

abbrev pub blank : Record
blank = record { state = 9; count = 9 }
