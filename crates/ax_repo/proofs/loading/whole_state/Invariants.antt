-- the ledger of the blank
use Rattle.ax_repo.proofs.loading.whole_state.Given as goal

abbrev pub ghosts-uncounted : goal.ghosts-uncounted
ghosts-uncounted a = record { name = a.blank.name; parts = a.blank.parts }
