-- Tables, seen as maps and as lists of rows.
use Rattle.std.proofs.Common.{◌≡◌, ◌+◌, ◌-◌, ◌<◌, ◌^◌, ℕ, Bool, true, false, cond, List, [], ◌∷◌, map, Option, Some, None, option_map, is_some, IsNone, refl, ap, arith}
use Rattle.std.specs.Prelude.{find, if◌then◌else◌}
use Rattle.std.specs.Map.{lookup, keys_of}
use Rattle.indexmap.specs.IndexMap.{insert_entry}
use Rattle.ax_values.specs.Grammar.{Name}
use Rattle.ax_values.specs.Words.{same_name}
use Rattle.ax_projections.specs.Table.{Entry, entry, look_up, put_entry}
use Rattle.ax_projections.specs.declared.table.Positioned.{Positioned}

pub lookup-look_up : (a : Name) (es : List (Name × Positioned)) → lookup (same_name a) es ≡ look_up a (map entry es)
lookup-look_up a [] = refl
lookup-look_up a (e ∷ es) = at (same_name a e.0) (lookup-look_up a es)
  where
    at : (b : Bool) → lookup (same_name a) es ≡ look_up a (map entry es) → cond b (Some e.1) (lookup (same_name a) es) ≡ option_map (λ (x : Entry). x.value) (cond b (Some (entry e)) (find (λ (x : Entry). same_name a x.name) (map entry es)))
    at true h = refl
    at false h = h

pub insert_entry-put_entry : (a : Name) (v : Positioned) (es : List (Name × Positioned)) → map entry (insert_entry same_name es a v) ≡ put_entry a v (map entry es)
insert_entry-put_entry a v [] = refl
insert_entry-put_entry a v (e ∷ es) = at (same_name a e.0) (insert_entry-put_entry a v es)
  where
    at : (b : Bool) → map entry (insert_entry same_name es a v) ≡ put_entry a v (map entry es)
        → map entry (if b then (e.0, v) ∷ es else e ∷ insert_entry same_name es a v) ≡ (if b then record { name = e.0; value = v } ∷ map entry es else entry e ∷ put_entry a v (map entry es))
    at true h = refl
    at false h = ap (λ xs. entry e ∷ xs) h

pub grown : (o : Option Positioned) (n m : ℕ) → m ≡ n + (if is_some o then 0 else 1) → n < 2 ^ 32 → (IsNone o → n < 2 ^ 32 - 1) → m < 2 ^ 32
grown None n m e h r = let low = r refl in omega (arith, e, low)
grown (Some v) n m e h r = omega (arith, e, h)

pub names-keys : (es : List (Name × Positioned)) → keys_of es ≡ map (λ (x : Entry). x.name) (map entry es)
names-keys [] = refl
names-keys (e ∷ es) = ap (λ ns. e.0 ∷ ns) (names-keys es)
