-- What a batch is handled from: its items by sequence, each with what was read of its aggregates.
use Rattle.std.specs.Prelude.{ℕ, ◌==◌, Bool, IsTrue, List, length, map}
use Rattle.std.specs.List.{list_all, list_any}
use Rattle.std.specs.Ordering.{is_lt}
use Rattle.ax_values.specs.Grammar.{Name}
use Rattle.ax_values.specs.Words.{same_name, name_cmp, rises}
use Rattle.ax_segments.specs.Segments.{Segment}
use Rattle.ax_tokens.specs.Tokens.{Token}
use Rattle.ax_rules.specs.Expr.{Row}
use Rattle.ax_rules.specs.Rules.{Rules}
use Rattle.ax_basis.specs.declared.item.BasisItem.{BasisItem}
use Rattle.ax_basis.specs.declared.item.Member.{Member}

-- the items of a sequence, by index, then part, and its aggregates by identifier
pub record Share : Type 0 where
  pub sequence : Name
  pub parked : Bool
  pub members : List Member
  pub items : List BasisItem

pub record Basis : Type 0 where
  pub processor : ℕ
  pub segment : Segment
  pub fence : ℕ
  pub old : Token
  pub new : Token
  pub keep : Bool
  pub shares : List Share

-- a basis, and the rules that it is handled by
pub record Handled : Type 0 where
  pub basis : Basis
  pub rules : Rules

-- ---- what every share keeps

abbrev pub member_below : Member → Member → Bool
member_below m n = is_lt (name_cmp m.aggregate n.aggregate)

abbrev pub is_member : List Member → Name → Bool
is_member ms a = list_any (λ m. same_name m.aggregate a) ms

-- the item's aggregate is one of the members
abbrev pub is_of_member : List Member → BasisItem → Bool
is_of_member ms x = is_member ms x.item.name.aggregate

pub record IsShare (s : Share) : Type 0 where
  pub rising : IsTrue (rises member_below s.members)
  pub own : IsTrue (list_all (is_of_member s.members) s.items)

abbrev pub member_names : List Member → List Name
member_names ms = map (λ m. m.aggregate) ms

abbrev pub member_rows : List Member → List Row
member_rows ms = map (λ m. m.row) ms

-- ---- rows that rules apply to

-- the row has one number for each declared field
abbrev pub row_fits : Rules → Row → Bool
row_fits rules row = length row == length rules.fields

abbrev pub members_fit : Rules → List Member → Bool
members_fit rules ms = list_all (λ m. row_fits rules m.row) ms

-- so has each row of the shares
abbrev pub shares_fit : Rules → List Share → Bool
shares_fit rules shares = list_all (λ s. members_fit rules s.members) shares
