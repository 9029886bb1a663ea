-- Why an item is parked or dropped: its text, and the reader of it.
use Rattle.std.specs.Prelude.{◌++◌, Option, Some, None, option_map, codes, if◌then◌else◌}
use Rattle.std.specs.Fmt.{decimal}
use Rattle.std.specs.Str.{bytes_eq}
use Rattle.ax_values.specs.Grammar.{Line, Cut, cut_at, name_in, u32_in}
use Rattle.ax_rules.specs.declared.cause.Cause.{Cause}
use Rattle.ax_rules.specs.declared.why.Why.{Why}

abbrev pub why_text : Why → Line
why_text Why.Marked = codes "marked"
why_text Why.Behind = codes "behind"
why_text (Why.Failed Cause.Overflow) = codes "overflow"
why_text (Why.Failed (Cause.Missing name)) = codes "missing " ++ name
why_text (Why.Failed (Cause.Guard g)) = codes "guard " ++ decimal g

abbrev pub why_word : Line → Option Why
why_word w = if bytes_eq w (codes "marked") then Some Why.Marked
    else (if bytes_eq w (codes "behind") then Some Why.Behind
    else (if bytes_eq w (codes "overflow") then Some (Why.Failed Cause.Overflow) else None))

-- the cause that a word and a value behind it are
abbrev pub why_pair : Cut → Option Why
why_pair t = if bytes_eq t.before (codes "missing") then option_map (λ name. Why.Failed (Cause.Missing name)) (name_in t.after)
    else (if bytes_eq t.before (codes "guard") then option_map (λ g. Why.Failed (Cause.Guard g)) (u32_in t.after) else None)

abbrev pub why_by : Line → Option Cut → Option Why
why_by w None = why_word w
why_by w (Some t) = why_pair t

-- one of three words, or a word, a space and a value
abbrev pub why_in : Line → Option Why
why_in text = why_by text (cut_at 32 text)
