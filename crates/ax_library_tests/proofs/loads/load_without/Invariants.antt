-- the ledger of the blank
use Rattle.ax_library_tests.proofs.loads.load_without.Given as goal

abbrev pub ghosts-uncounted : goal.ghosts-uncounted
ghosts-uncounted a = record { name = a.blank.name; parts = a.blank.parts }
