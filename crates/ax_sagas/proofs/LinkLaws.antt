-- Links that rise: what an association and a dissociation make of them.
use Rattle.std.proofs.Common.{◌≡◌, ◌<◌, ◌≤◌, ℕ, true, List, [], ◌∷◌, length, get_or, set, refl, sym, ap, ◌∙◌}
use Rattle.std.specs.Prelude.{insert, remove}
use Rattle.std.specs.List.Sorted.{IsPartitionPoint}
use Rattle.std.specs.declared.cmp.Ordering.{Ordering}
use Rattle.std.specs.declared.cmp.Ordering.TheVariants.{Less, Equal, Greater}
use Rattle.std.specs.Ordering.{match_ordering}
use Rattle.std.specs.Cmp.{IsTotalOrder}
use Rattle.std.proofs.lemmas.Cmp.{then_total, on_total, nat_list_cmp_total}
use Rattle.std.proofs.lemmas.List.{set-get_or}
use Rattle.std.proofs.lemmas.Map.Lookups.{CmpEqualImpliesEq, exact_bytes, exact_pairs}
use Rattle.ax_values.specs.Words.{name_cmp, rises, put_rising, insert_rising, remove_rising}
use Rattle.ax_values.proofs.Rising.{put-found, remove-found, remove-none, rises-remove}
use Rattle.ax_sagas.proofs.PutLaws.{put-between}
use Rattle.ax_sagas.specs.Links.{link_of, link_cmp, link_below}
use Rattle.ax_sagas.specs.declared.link.Link.{Link}

pub link_total : IsTotalOrder link_cmp
link_total = then_total (on_total (λ (l : Link). l.key) nat_list_cmp_total) (on_total (λ (l : Link). l.value) nat_list_cmp_total)

-- two links that are equal in their order are the same
link-is : CmpEqualImpliesEq link_cmp
link-is a b e = ap (λ p. link_of p.0 p.1) (exact_pairs name_cmp name_cmp exact_bytes exact_bytes (a.key, a.value) (b.key, b.value) e)

-- where equals are the same, an insertion is a put
insert-put : {A : Type 0} (cmp : A → A → Ordering) → CmpEqualImpliesEq cmp → (r : A) (xs : List A) → insert_rising cmp r xs ≡ put_rising cmp r xs
insert-put cmp exact r [] = refl
insert-put cmp exact r (x ∷ xs) = at (cmp r x) refl (insert-put cmp exact r xs)
  where
    at : (o : Ordering) → cmp r x ≡ o → insert_rising cmp r xs ≡ put_rising cmp r xs
        → match_ordering o (r ∷ x ∷ xs) (x ∷ xs) (x ∷ insert_rising cmp r xs) ≡ match_ordering o (r ∷ x ∷ xs) (r ∷ xs) (x ∷ put_rising cmp r xs)
    at Less e rest = refl
    at Equal e rest = ap (λ y. y ∷ xs) (sym (exact r x e))
    at Greater e rest = ap (λ ys. x ∷ ys) rest

-- a link that is there already
pub added-there : (l : Link) (ls : List Link) (i : ℕ) → rises link_below ls ≡ true → i < length ls → link_cmp (get_or ls i l) l ≡ Equal → insert_rising link_cmp l ls ≡ ls
added-there l ls i r lt e =
    insert-put link_cmp link-is l ls ∙ put-found link_cmp link_total l ls i r lt e ∙ ap (set ls i) (sym (link-is (get_or ls i l) l e)) ∙ set-get_or ls i l

-- a link that is not there yet
pub record IsAdded (l : Link) (ls new : List Link) : Type 0 where
  pub same : new ≡ insert_rising link_cmp l ls
  pub rising : rises link_below new ≡ true

pub added-between : (l : Link) (ls : List Link) (i : ℕ) → rises link_below ls ≡ true → i ≤ length ls → IsPartitionPoint (λ y. link_cmp y l ≡ Less) (λ y. link_cmp y l ≡ Greater) ls i
    → IsAdded l ls (insert ls i l)
added-between l ls i r le p =
    let put = put-between link_cmp link_total l ls i r le p in record { same = put.same ∙ sym (insert-put link_cmp link-is l ls); rising = put.rising }

-- a link that is taken off
pub record IsRemoved (l : Link) (ls new : List Link) : Type 0 where
  pub same : new ≡ remove_rising link_cmp l ls
  pub rising : rises link_below new ≡ true

pub removed-there : (l : Link) (ls : List Link) (i : ℕ) → rises link_below ls ≡ true → i < length ls → link_cmp (get_or ls i l) l ≡ Equal → IsRemoved l ls (remove ls i)
removed-there l ls i r lt e =
    let gone = remove-found link_cmp link_total l ls i r lt e in
    record { same = sym gone; rising = ap (rises link_below) (sym gone) ∙ rises-remove link_cmp link_total l ls r }

-- a link that is not there
pub removed-none : (l : Link) (ls : List Link) (i : ℕ) → i ≤ length ls → IsPartitionPoint (λ y. link_cmp y l ≡ Less) (λ y. link_cmp y l ≡ Greater) ls i → remove_rising link_cmp l ls ≡ ls
removed-none l ls i le p = remove-none link_cmp link_total l ls i le p
