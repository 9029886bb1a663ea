-- Token rows and cells, as reports show them.
use Rattle.std.specs.Prelude.{◌≡◌, ℕ, zero, suc, ◌+◌, ◌*◌, ◌^◌, ◌<◌, ◌≤◌, ◌&&◌, Bool, true, IsTrue, List, [], ◌∷◌, ◌++◌, map, length, max, Some, nat_le}
use Rattle.std.specs.List.{AllByRecursion}
use Rattle.std.proofs.Common.{refl, ap, sym, ◌∙◌, subst, arith}
use Rattle.std.proofs.Math.Nat.{max-le}
use Rattle.std.proofs.lemmas.List.{length-map}
use Rattle.std.proofs.lemmas.Bool.Decides.{nat_tests}
use Rattle.ax_values.specs.Grammar.{Line}
use Rattle.ax_laws.proofs.Tests.{both}
use Rattle.ax_segments.specs.Segments.{half_mask, max_mask}
use Rattle.ax_tokens.specs.Tokens.{Token, plain, merged, replay, masks_fit, depth}
use Rattle.ax_tokens.specs.TokenText.{max_depth}
use Rattle.ax_claims.specs.Rows.{TokenRow}
use Rattle.ax_state.specs.State.{ProcessorState, processor_state_at, empty_processor}
use Rattle.ax_state.specs.Answer.{reported}
use Rattle.ax_state.specs.Portions.{Portion, portions}
use Rattle.ax_state.specs.WellFormed.{IsTokenOver}
use Rattle.ax_state.proofs.Frames.{place-at}
use Rattle.ax_world.specs.WorldTables.{WorldTables, ProcessorTables, state_of, processor_tables_at}
use Rattle.ax_world.specs.Fits.{IsWorld}
use Rattle.ax_world.specs.Moves.{IsMove}
use Rattle.ax_world.proofs.ProcessorStates.{get-at, processor_state-place, place-declared}
use Rattle.ax_world.specs.declared.edit.Move.{Move}
use Rattle.ax_journal.specs.declared.reply.Reply.{Reply}
use Rattle.ax_values.specs.declared.cell.Cell.{Cell}

-- ---- halves

-- the mask of a part that stands so many halves deep
abbrev doubled : ℕ → ℕ → ℕ
doubled zero mask = mask
doubled (suc n) mask = doubled n (half_mask mask)

doubled-more : (n a b : ℕ) → a ≤ b → doubled n a ≤ doubled n b
doubled-more zero a b le = le
doubled-more (suc n) a b le = doubled-more n (half_mask a) (half_mask b) (omega arith)

mask-small : (mask : ℕ) (t : Token) → masks_fit mask t ≡ true → mask ≤ max_mask
mask-small mask (plain p) h = grind (arith, nat_tests, h)
mask-small mask (merged l u) h = let k : half_mask mask ≤ max_mask = mask-small (half_mask mask) l (both (masks_fit (half_mask mask) l) (masks_fit (half_mask mask) u) h).0 in omega arith
mask-small mask (replay r c) h = grind (arith, nat_tests, h)

-- halves under masks of the grammar do not stand deeper than masks double
depth-doubled : (n mask : ℕ) (t : Token) → max_mask ≤ doubled n mask → masks_fit mask t ≡ true → depth t ≤ n
depth-doubled n mask (plain p) most h = omega arith
depth-doubled n mask (replay r c) most h = omega arith
depth-doubled zero mask (merged l u) most h = let k : half_mask mask ≤ max_mask = mask-small (half_mask mask) l (both (masks_fit (half_mask mask) l) (masks_fit (half_mask mask) u) h).0 in absurd (omega arith)
depth-doubled (suc n) mask (merged l u) most h =
    let fits = both (masks_fit (half_mask mask) l) (masks_fit (half_mask mask) u) h in
    let k : max (depth l) (depth u) ≤ n = max-le (depth-doubled n (half_mask mask) l most fits.0) (depth-doubled n (half_mask mask) u most fits.1) in omega arith

depth-fits : (mask : ℕ) (t : Token) → masks_fit mask t ≡ true → depth t ≤ max_depth
depth-fits mask t h = depth-doubled 16 mask t (let least : doubled 16 0 ≤ doubled 16 mask = doubled-more 16 0 mask (omega arith) in omega arith) h

row-depths : (cells : List Cell) (rows : List TokenRow) → AllByRecursion (λ (x : Portion). IsTokenOver cells x.segment.mask x.token) (portions rows) → AllByRecursion (λ (r : TokenRow). depth r.token ≤ max_depth) rows
row-depths cells [] h = tt
row-depths cells (r ∷ rows) h = (depth-fits r.segment.mask r.token h.0.masks, row-depths cells rows h.1)

pub few-halves : (w : WorldTables) (p : ℕ) (rows : List TokenRow) → IsWorld w → p < length w.setting.processors → rows ≡ (processor_tables_at w p).processor_state.rows → AllByRecursion (λ (r : TokenRow). depth r.token ≤ max_depth) rows
few-halves w p rows h declared is = rw is (row-depths w.cells (processor_tables_at w p).processor_state.rows (subst (λ (x : ProcessorState). AllByRecursion (λ (y : Portion). IsTokenOver w.cells y.segment.mask y.token) (portions x.rows)) (processor_state-place w p) (place-at (state_of w) p (get-at empty_processor (state_of w).processor_states p there) h.state).tokens))
  where
    there : p < length (map (λ (x : ProcessorTables). x.processor_state) w.processor_tables)
    there = let lt : p < length w.processor_tables = place-declared w p h declared in let same : length (map (λ (x : ProcessorTables). x.processor_state) w.processor_tables) ≡ length w.processor_tables = length-map w.processor_tables (λ x. x.processor_state) in omega arith

-- a report changes nothing
pub report-move : (w : WorldTables) (lines given : List Line) (move : Move) → IsWorld w → given ≡ lines → move ≡ record { edits = []; reply = Reply.Lines (length given); report = given } → IsMove w (reported (state_of w) lines) move
report-move w lines given move h same is = rw (is, same) (record { fits = record { single = omega arith; can = tt; world = h }; state = refl; reply = refl; report = refl })
