-- Words that are tokens, written as they are read, and words that are none.
use Rattle.std.specs.Prelude.{◌≡◌, refl, [], ◌∷◌, map, codes, Some, None, Option, option_map}
use Rattle.std.specs.Fmt.{digits}
use Rattle.ax_values.specs.Grammar.{Line}
use Rattle.ax_tokens.specs.TokenText.{token_text, half_at, token_in}

abbrev pub again : Line → Option Line
again w = option_map token_text (token_in w)

pub tokens : map again (codes "0" ∷ codes "4[0,2]" ∷ codes "((4|0)|{2[0]>1})" ∷ codes "4294967295" ∷ codes "((((((((((((((((0|0)|0)|0)|0)|0)|0)|0)|0)|0)|0)|0)|0)|0)|0)|0)|0)" ∷ []) ≡
    Some (codes "0") ∷ Some (codes "4[0,2]") ∷ Some (codes "((4|0)|{2[0]>1})") ∷ Some (codes "4294967295") ∷ Some (codes "((((((((((((((((0|0)|0)|0)|0)|0)|0)|0)|0)|0)|0)|0)|0)|0)|0)|0)|0)") ∷ []
unfolding digits half_at
tokens = refl

pub no_tokens : map again (codes "" ∷ codes "01" ∷ codes "4294967296" ∷ codes "4[]" ∷ codes "4[2,0]" ∷ codes "4[0,0]" ∷ codes "4[3]" ∷ codes "4[4]" ∷ codes "4[0" ∷ codes "4[0,]" ∷ codes "(4|0" ∷ codes "(4)" ∷ codes "{(1|1)>0}" ∷ codes "{1>0" ∷ codes "4 " ∷ codes "(((((((((((((((((0|0)|0)|0)|0)|0)|0)|0)|0)|0)|0)|0)|0)|0)|0)|0)|0)|0)" ∷ []) ≡
    None ∷ None ∷ None ∷ None ∷ None ∷ None ∷ None ∷ None ∷ None ∷ None ∷ None ∷ None ∷ None ∷ None ∷ None ∷ None ∷ []
unfolding digits half_at
no_tokens = refl
