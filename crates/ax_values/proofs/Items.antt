-- Marks and items: what is written is read again, and what is read is written so.
use Rattle.std.proofs.Common.{◌≡◌, ℕ, ◌-◌, ◌^◌, ◌<◌, ◌≤◌, true, false, ◌∷◌, ◌++◌, Option, Some, option_and_then, refl, sym, ap, subst, ◌∙◌, arith}
use Rattle.std.specs.Fmt.{decimal}
use Rattle.ax_values.specs.Grammar.{Name, Line, ItemName, Cut, cut_at, is_digit, u32_in, number_to, name_in, ◌>>=◌, Mark}
use Rattle.ax_values.specs.Words.{item_text}
use Rattle.ax_values.specs.Readers.{mark_in, item_in}
use Rattle.ax_values.specs.Seen.{mark_text}
use Rattle.ax_values.proofs.Options.{then-some}
use Rattle.ax_values.proofs.Numbers.{number_to-decimal, from_number_to, digits-decimal}
use Rattle.ax_values.proofs.Cuts.{lacks, lacks-all, cut_at-append, IsCut, from_cut}
use Rattle.ax_values.proofs.Values.{is_name-name_in, lacks-name}

pub lacks-decimal : (sep n : ℕ) → is_digit sep ≡ false → n < 2 ^ 64 → lacks sep (decimal n) ≡ true
lacks-decimal sep n f h = lacks-all is_digit sep (decimal n) f (digits-decimal n h)

-- ---- marks

part_given : ℕ → ℕ → Option Mark
part_given seq part = Some (record { seq = seq; part = part })

mark_cut : Cut → Option Mark
mark_cut t = u32_in t.before >>= (λ seq. number_to 7 t.after >>= part_given seq)

pub mark_in-mark_text : (k : Mark) → u32_in (decimal k.seq) ≡ Some k.seq → k.part ≤ 7 → mark_in (mark_text k) ≡ Some k
unfolding mark_cut part_given
mark_in-mark_text k s p =
    let small = (from_number_to (2 ^ 32 - 1) (decimal k.seq) k.seq (omega arith) s).fits in
    ap (option_and_then mark_cut) (cut_at-append (decimal k.seq) 46 (decimal k.part) (lacks-decimal 46 k.seq refl (omega arith)))
    ∙ ap (λ o. o >>= (λ seq. number_to 7 (decimal k.part) >>= part_given seq)) s
    ∙ ap (λ o. o >>= part_given k.seq) (number_to-decimal 7 k.part p (omega arith))

pub record IsWrittenMark (k : Mark) (w : Line) : Type 0 where
  pub text : mark_text k ≡ w
  pub seq : k.seq < 2 ^ 32
  pub part : k.part ≤ 7

pub from_mark : (w : Line) (k : Mark) → mark_in w ≡ Some k → IsWrittenMark k w
unfolding mark_cut part_given
from_mark w k h =
    let p = then-some (cut_at 46 w) mark_cut k h in
    let q = then-some (u32_in p.from.before) (λ seq. number_to 7 p.from.after >>= part_given seq) k p.gives in
    let r = then-some (number_to 7 p.from.after) (part_given q.from) k q.gives in
    let s = from_number_to (2 ^ 32 - 1) p.from.before q.from (omega arith) q.held in
    let t = from_number_to 7 p.from.after r.from (omega arith) r.held in
    let is_mark : record { seq = q.from; part = r.from } ≡ k = cc in
    subst (λ k. IsWrittenMark k w) is_mark (record {
      text = ap (λ ds. ds ++ 46 ∷ decimal r.from) s.text ∙ ap (λ ds. p.from.before ++ 46 ∷ ds) t.text ∙ (from_cut 46 w p.from p.held).whole;
      seq = omega (arith, s.fits);
      part = t.fits;
    })

-- ---- items

mark_given : Name → Mark → Option ItemName
mark_given aggregate mark = Some (record { aggregate = aggregate; seq = mark.seq; part = mark.part })

item_cut : Cut → Option ItemName
item_cut t = name_in t.before >>= (λ aggregate. mark_in t.after >>= mark_given aggregate)

pub item_in-item_text : (x : ItemName) → name_in x.aggregate ≡ Some x.aggregate → u32_in (decimal x.seq) ≡ Some x.seq → x.part ≤ 7 → item_in (item_text x) ≡ Some x
unfolding item_cut mark_given
item_in-item_text x n s p =
    let mark : Mark = record { seq = x.seq; part = x.part } in
    ap (option_and_then item_cut) (cut_at-append x.aggregate 46 (mark_text mark) (lacks-name 46 x.aggregate refl (is_name-name_in x.aggregate x.aggregate n).0))
    ∙ ap (λ o. o >>= (λ aggregate. mark_in (mark_text mark) >>= mark_given aggregate)) n
    ∙ ap (λ o. o >>= mark_given x.aggregate) (mark_in-mark_text mark s p)

item-whole : (w : Line) (t : Cut) (a : Name) (k : Mark) (x : ItemName) → IsCut 46 w t → a ≡ t.before → mark_text k ≡ t.after → mark_given a k ≡ Some x → item_text x ≡ w
unfolding mark_given
item-whole w t a k x c n m e =
    let is_item : record { aggregate = a; seq = k.seq; part = k.part } ≡ x = cc in
    ap item_text (sym is_item) ∙ ap (λ n. n ++ 46 ∷ mark_text k) n ∙ ap (λ s. t.before ++ 46 ∷ s) m ∙ c.whole

pub from_item : (w : Line) (x : ItemName) → item_in w ≡ Some x → item_text x ≡ w
unfolding item_cut mark_given
from_item w x h =
    let p = then-some (cut_at 46 w) item_cut x h in
    let q = then-some (name_in p.from.before) (λ aggregate. mark_in p.from.after >>= mark_given aggregate) x p.gives in
    let r = then-some (mark_in p.from.after) (mark_given q.from) x q.gives in
    item-whole w p.from q.from r.from x (from_cut 46 w p.from p.held) (is_name-name_in q.from p.from.before q.held).1 (from_mark p.from.after r.from r.held).text r.gives
