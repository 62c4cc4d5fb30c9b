-- What a journal of the code holds.
use Rattle.lists.specs.Contents.{Contents}
use Rattle.lists.specs.declared.journal.Journal.{Journal}

abbrev pub contents_of : {X : Type 0} → Journal X → Contents X
contents_of j = record { slots = j.slots.now; len = j.len }
