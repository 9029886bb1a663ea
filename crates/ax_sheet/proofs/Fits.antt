-- Arguments that fit are as many as the parameters.
use Rattle.std.proofs.Common.{◌≡◌, ◌≢◌, ◌&&◌, Bool, true, false, List, [], ◌∷◌, length, suc, refl, ap, ◌∙◌}
use Rattle.ax_values.specs.Words.{same_name}
use Rattle.ax_values.specs.declared.value.Field.{Field}
use Rattle.ax_sheet_parts.specs.Sheet.{fits_params, is_kind}
use Rattle.ax_sheet_parts.specs.declared.params.Param.{Param}

no_and : (a b : Bool) → (a && b && false) ≡ false
no_and true true = refl
no_and true false = refl
no_and false b = refl

pub unlike : (ps : List Param) (fs : List Field) → length ps ≢ length fs → fits_params ps fs ≡ false
unlike [] [] h = absurd (h refl)
unlike [] (f ∷ fs) h = refl
unlike (p ∷ ps) [] h = refl
unlike (p ∷ ps) (f ∷ fs) h =
    ap (λ b. same_name p.name f.name && is_kind p.kind f.value && b) (unlike ps fs (λ e. h (ap suc e))) ∙ no_and (same_name p.name f.name) (is_kind p.kind f.value)
