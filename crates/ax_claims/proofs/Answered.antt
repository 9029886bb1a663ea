-- What a claim and a store answer of the row that they find.
use Rattle.std.proofs.Common.{◌≡◌, ℕ, ◌<◌, ◌==◌, true, false, List, length, Option, Some, None, Result, Ok, Err, slice_set, get_or, refl, sym, ◌∙◌, subst}
use Rattle.ax_values.specs.Grammar.{Name}
use Rattle.ax_segments.specs.Segments.{Segment}
use Rattle.ax_tokens.specs.Tokens.{Token}
use Rattle.ax_claims.specs.Rows.{TokenRow, AreRows, row_at, put_row, place_at}
use Rattle.ax_claims.specs.Changes.{is_claimed, owned, claimed, stored, IsChange}
use Rattle.ax_claims.proofs.RowPlaces.{found, unfound, get-within, get-read, put-here, rows-kept}
use Rattle.ax_claims.specs.declared.refused.Refused.{Refused}

pub within : (s : Segment) (rows : List TokenRow) (p : ℕ) → Some p ≡ place_at s rows → p < length rows
within s rows p e = let f = found s rows p (sym e) in get-within rows p f.row f.here

-- the row that is read at the place is that of the segment
pub read-row : (s : Segment) (rows : List TokenRow) (p : ℕ) (r : TokenRow) → Some p ≡ place_at s rows → r ≡ get_or rows p r → row_at s rows ≡ Some r
read-row s rows p r e h =
    let f = found s rows p (sym e) in
    f.at ∙ sym f.here ∙ get-read rows p r (within s rows p e) h

pub same-read : (s : Segment) (rows : List TokenRow) (p : ℕ) (r q : TokenRow) → Some p ≡ place_at s rows → r ≡ get_or rows p r → q ≡ get_or rows p q → r ≡ q
same-read s rows p r q e g h =
    let both : Some r ≡ Some q = sym (read-row s rows p r e g) ∙ read-row s rows p q e h in cc

pub no-row : {B : Type 0} (s : Segment) (rows : List TokenRow) (given : B) (next : Option TokenRow → Result (List TokenRow) Refused) (refused : Refused) → None ≡ place_at s rows → next None ≡ Err refused
    → IsChange (next (row_at s rows)) given rows rows (Err (refused, given))
no-row s rows given next refused e h = rw (unfound s rows (sym e), h) (refl, refl, refl)

pub row-put : (s : Segment) (rows : List TokenRow) (p : ℕ) (r y : TokenRow) → AreRows rows → Some p ≡ place_at s rows → r ≡ get_or rows p r → y.segment ≡ r.segment → slice_set rows p y ≡ put_row y rows
row-put s rows p r y h e g k = sym (put-here y rows p r h.order (get-read rows p r (within s rows p e) g) k)

pub row-kept : (s : Segment) (rows : List TokenRow) (p : ℕ) (r y : TokenRow) → AreRows rows → Some p ≡ place_at s rows → r ≡ get_or rows p r → y.segment ≡ r.segment → AreRows (slice_set rows p y)
row-kept s rows p r y h e g k = rows-kept y rows p r h (get-read rows p r (within s rows p e) g) k

pub claim-refused : (s : Segment) (actor : Name) (now fence : ℕ) (rows : List TokenRow) (p : ℕ) (r : TokenRow) → Some p ≡ place_at s rows → r ≡ get_or rows p r → is_claimed actor now r ≡ true
    → IsChange (claimed s actor now fence rows) actor rows rows (Err (Refused.Claimed p, actor))
claim-refused s actor now fence rows p r e g c =
    rw (read-row s rows p r e g, c, (found s rows p (sym e)).place) (refl, refl, refl)

pub claim-granted : (s : Segment) (actor : Name) (now fence : ℕ) (rows : List TokenRow) (p : ℕ) (r q : TokenRow) → AreRows rows → Some p ≡ place_at s rows → r ≡ get_or rows p r → q ≡ get_or rows p q → is_claimed actor now r ≡ false
    → IsChange (claimed s actor now fence rows) actor rows (slice_set rows p (owned q (Some actor) now fence)) (Ok tt)
claim-granted s actor now fence rows p r q h e g k c =
    subst (λ x. IsChange (claimed s actor now fence rows) actor rows (slice_set rows p (owned x (Some actor) now fence)) (Ok tt)) (same-read s rows p r q e g k)
    (rw (read-row s rows p r e g, c) (row-put s rows p r (owned r (Some actor) now fence) h e g refl))

pub store-refused : {B : Type 0} (s : Segment) (held : ℕ) (t : Token) (given : B) (now : ℕ) (rows : List TokenRow) (p : ℕ) (r : TokenRow) → Some p ≡ place_at s rows → r ≡ get_or rows p r → (r.fence == held) ≡ false
    → IsChange (stored s held t now rows) given rows rows (Err (Refused.Stale held (Some r.fence), given))
store-refused s held t given now rows p r e g c = rw (read-row s rows p r e g, c) (refl, refl, refl)

pub store-done : {B : Type 0} (s : Segment) (held : ℕ) (t : Token) (given : B) (now : ℕ) (rows : List TokenRow) (p : ℕ) (r q : TokenRow) → AreRows rows → Some p ≡ place_at s rows → r ≡ get_or rows p r → q ≡ get_or rows p q → (r.fence == held) ≡ true
    → IsChange (stored s held t now rows) given rows (slice_set rows p (record q { token = t; since = now })) (Ok tt)
store-done s held t given now rows p r q h e g k c =
    subst (λ x. IsChange (stored s held t now rows) given rows (slice_set rows p (record x { token = t; since = now })) (Ok tt)) (same-read s rows p r q e g k)
    (rw (read-row s rows p r e g, c) (row-put s rows p r (record r { token = t; since = now }) h e g refl))
