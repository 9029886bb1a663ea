-- no letter so far is of the item
use Rattle.std.proofs.Common.{◌≡◌, ◌+◌, drop}
use Rattle.std.specs.Prelude.{find}
use Rattle.ax_values.specs.Words.{place_where}
use Rattle.ax_letters.specs.Letters.{is_letter_of}
use Rattle.ax_letters.proofs.places.place_among.Given as goal

abbrev pub invariant-loop-place : goal.invariant-loop-place
invariant-loop-place l = record {
  found : find (is_letter_of l.item) (drop l.place l.letters) ≡ find (is_letter_of l.item) l.letters;
  place : l.place + place_where (is_letter_of l.item) (drop l.place l.letters) ≡ place_where (is_letter_of l.item) l.letters;
}
