-- Words that are written one after another.
use Rattle.std.proofs.Common.{◌≡◌, Bool, true, false, List, [], ◌∷◌, ◌++◌, refl, sym, ap, ◌∙◌, append_assoc}
use Rattle.std.specs.Prelude.{codes}
use Rattle.std.specs.Bool.{if◌then◌else◌}
use Rattle.std.specs.List.{flat_map}
use Rattle.ax_values.specs.Grammar.{Line}
use Rattle.ax_values.specs.Words.{words, spaced}
use Rattle.ax_journal.specs.Form.{kind, form_words}
use Rattle.ax_journal.specs.Parts.{part_words, is_nothing}
use Rattle.ax_journal.specs.Fields.{fields_words}
use Rattle.ax_journal.specs.Orders.{form_of, fields_of, order_words}
use Rattle.ax_journal.specs.Replies.{reply_words}
use Rattle.ax_journal.specs.Entries.{ended, entry_text}
use Rattle.ax_journal.specs.declared.part.Part.{Part}
use Rattle.ax_journal.specs.declared.entry.Entry.{Entry}
use Rattle.ax_journal.specs.declared.form.Form.{Form}

pub spaced-append : (xs ys : List Line) → spaced (xs ++ ys) ≡ spaced xs ++ spaced ys
spaced-append [] ys = refl
spaced-append (x ∷ xs) ys = ap (λ t. 32 ∷ (x ++ t)) (spaced-append xs ys) ∙ ap (λ t. 32 ∷ t) (sym (append_assoc x (spaced xs) (spaced ys)))

words-append : (x : Line) (xs ys : List Line) → words (x ∷ xs ++ ys) ≡ words (x ∷ xs) ++ spaced ys
words-append x xs ys = ap (λ t. x ++ t) (spaced-append xs ys) ∙ sym (append_assoc x (spaced xs) (spaced ys))

-- the words of a form, and others behind them
pub form_in_front : (f : Form) (ws : List Line) → words (form_words f ++ ws) ≡ words (form_words f) ++ spaced ws
form_in_front f ws = at (kind f).shown
  where
    at : (b : Bool) → words ((if b then codes "show" ∷ (kind f).word ∷ [] else (kind f).word ∷ []) ++ ws) ≡ words (if b then codes "show" ∷ (kind f).word ∷ [] else (kind f).word ∷ []) ++ spaced ws
    at true = words-append (codes "show") ((kind f).word ∷ []) ws
    at false = words-append (kind f).word [] ws

-- a number, and values of three kinds behind it
pub values_in_front : (n : Line) (xs ys zs : List Line) → words (n ∷ xs ++ (ys ++ zs)) ≡ n ++ (spaced xs ++ (spaced ys ++ spaced zs))
values_in_front n xs ys zs = ap (λ t. n ++ t) (spaced-append xs (ys ++ zs) ∙ ap (λ t. spaced xs ++ t) (spaced-append ys zs))

-- a space in front of words
pub spaced_words : (ws : List Line) → is_nothing ws ≡ false → spaced ws ≡ 32 ∷ words ws
spaced_words [] h = cc
spaced_words (w ∷ ws) h = refl

-- what is written, with the words of one part more
pub parts_next : (out : Line) (p : Part) (ps : List Part) → (out ++ spaced (part_words p)) ++ spaced (flat_map part_words ps) ≡ out ++ spaced (flat_map part_words (p ∷ ps))
parts_next out p ps =
    append_assoc out (spaced (part_words p)) (spaced (flat_map part_words ps)) ∙ ap (λ t. out ++ t) (sym (spaced-append (part_words p) (flat_map part_words ps)))

-- ---- the line of a step

has_words : (f : Form) (ws : List Line) → is_nothing (form_words f ++ ws) ≡ false
has_words f ws = at (kind f).shown
  where
    at : (b : Bool) → is_nothing ((if b then codes "show" ∷ (kind f).word ∷ [] else (kind f).word ∷ []) ++ ws) ≡ false
    at true = refl
    at false = refl

line_parts : (a : Line) (xs ys : List Line) → is_nothing xs ≡ false → is_nothing ys ≡ false → words (a ∷ xs ++ codes "->" ∷ ys) ≡ a ++ 32 ∷ (words xs ++ (codes " -> " ++ words ys))
line_parts a xs ys h k =
    ap (λ t. a ++ t) (spaced-append xs (codes "->" ∷ ys)
    ∙ ap (λ t. t ++ spaced (codes "->" ∷ ys)) (spaced_words xs h)
    ∙ ap (λ t. 32 ∷ (words xs ++ 32 ∷ (codes "->" ++ t))) (spaced_words ys k))

chain : (out a x y z : Line) → ((((((out ++ a) ++ 32 ∷ []) ++ x) ++ codes " -> ") ++ y) ++ 10 ∷ []) ++ z ≡ out ++ (((a ++ 32 ∷ (x ++ (codes " -> " ++ y))) ++ 10 ∷ []) ++ z)
chain out a x y z = simp append_assoc

pub entry_parts : (out : Line) (e : Entry) →
    ((((((out ++ e.actor) ++ 32 ∷ []) ++ words (order_words e.order)) ++ codes " -> ") ++ words (reply_words e.reply)) ++ 10 ∷ []) ++ ended e.report ≡ out ++ entry_text e
entry_parts out e =
    chain out e.actor (words (order_words e.order)) (words (reply_words e.reply)) (ended e.report)
    ∙ ap (λ l. out ++ ((l ++ 10 ∷ []) ++ ended e.report)) (sym (line_parts e.actor (order_words e.order) (reply_words e.reply) (has_words (form_of e.order) (fields_words (fields_of e.order))) refl))
