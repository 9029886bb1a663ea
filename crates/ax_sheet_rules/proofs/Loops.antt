-- Loops over members: one more that is read.
use Rattle.std.proofs.Common.{◌≡◌, List, [], ◌∷◌, ◌++◌, Option, Some, None, option_map, string_bytes, refl, sym, ap, ◌∙◌, append_assoc}
use Rattle.std.specs.Prelude.{String}
use Rattle.std.specs.declared.alloc.Global.{Global}
use Rattle.serde_json.specs.Data.{Data, Members, member}
use Rattle.serde_json.specs.View.{view, members_view}
use Rattle.serde_json.specs.declared.value.Value.{Value}
use Rattle.ax_values.specs.Grammar.{Name, Line, ◌>>=◌, name_in}
use Rattle.ax_values.proofs.Lists.{behind}
use Rattle.ax_rules.specs.declared.saga_rules.GivenParam.{GivenParam}
use Rattle.ax_sheet_rules.specs.Members.{each_member}
use Rattle.ax_sheet_rules.specs.Shape.{given_param_of, each_param}
use Rattle.ax_sheet_parts.specs.declared.params.Param.{Param}

abbrev Entry : Type 0
Entry = String Global × Value

behind-more : {A : Type 0} (later : Option (List A)) (xs : List A) (x : A) → behind xs (option_map (λ ys. x ∷ ys) later) ≡ behind (xs ++ x ∷ []) later
behind-more None xs x = refl
behind-more (Some ys) xs x = ap Some (sym (append_assoc xs (x ∷ []) ys))

one_more : {A : Type 0} (one : Name → Data → Option A) (xs : List A) (k : Line) (d : Data) (ms : Members) (n : Name) (x : A) → name_in k ≡ Some n → one n d ≡ Some x →
    behind xs (each_member one (member k d ms)) ≡ behind (xs ++ x ∷ []) (each_member one ms)
one_more one xs k d ms n x named read =
    ap (λ o. behind xs (o >>= λ n. one n d >>= λ x. option_map (λ ys. x ∷ ys) (each_member one ms))) named
    ∙ ap (λ o. behind xs (o >>= λ x. option_map (λ ys. x ∷ ys) (each_member one ms))) read
    ∙ behind-more (each_member one ms) xs x

-- what is read of a member goes behind what was read so far
pub kept : {A : Type 0} (one : Name → Data → Option A) (xs : List A) (k : String Global) (v : Value) (n : Name) (x : A) (next all : List Entry) {left : List Entry} {more : List A} →
    behind xs (each_member one (members_view left)) ≡ each_member one (members_view all) → left ≡ (k, v) ∷ next → more ≡ xs ++ x ∷ [] →
    name_in (string_bytes k) ≡ Some n → one n (view v) ≡ Some x → behind more (each_member one (members_view next)) ≡ each_member one (members_view all)
kept one xs k v n x next all h step pushed named read =
    ap (λ ys. behind ys (each_member one (members_view next))) pushed
    ∙ sym (one_more one xs (string_bytes k) (view v) (members_view next) n x named read)
    ∙ ap (λ es. behind xs (each_member one (members_view es))) (sym step)
    ∙ h

one_more_param : (xs : List GivenParam) (p : Param) (rest : List Param) (k : Line) (d : Data) (ms : Members) (x : GivenParam) → given_param_of p k d ≡ Some x →
    behind xs (each_param (p ∷ rest) (member k d ms)) ≡ behind (xs ++ x ∷ []) (each_param rest ms)
one_more_param xs p rest k d ms x read =
    ap (λ o. behind xs (o >>= λ x. option_map (λ ys. x ∷ ys) (each_param rest ms))) read ∙ behind-more (each_param rest ms) xs x

-- what is given a parameter goes behind what was given so far
pub kept_param : (xs : List GivenParam) (p : Param) (rest : List Param) (k : String Global) (v : Value) (x : GivenParam) (next : List Entry) (whole : Option (List GivenParam)) {ps : List Param}
    {left : List Entry} {more : List GivenParam} → behind xs (each_param ps (members_view left)) ≡ whole → ps ≡ p ∷ rest → left ≡ (k, v) ∷ next → more ≡ xs ++ x ∷ [] →
    given_param_of p (string_bytes k) (view v) ≡ Some x → behind more (each_param rest (members_view next)) ≡ whole
kept_param xs p rest k v x next whole {ps} {left} {more} h params step pushed read =
    ap (λ ys. behind ys (each_param rest (members_view next))) pushed
    ∙ sym (one_more_param xs p rest (string_bytes k) (view v) (members_view next) x read)
    ∙ ap (λ es. behind xs (each_param (p ∷ rest) (members_view es))) (sym step)
    ∙ ap (λ ps. behind xs (each_param ps (members_view left))) (sym params)
    ∙ h
