-- Names in the order in which they first stand in a list, and rows under them.
use Rattle.std.proofs.Common.{◌≡◌, ◌≤◌, suc, Bool, true, false, not, ◌&&◌, ◌||◌, cond, List, [], ◌∷◌, ◌++◌, length, map, Some, None, refl, sym, ap, subst, ◌∙◌, append_assoc, true≢false, arith}
use Rattle.std.specs.Prelude.{find, option_map, if◌then◌else◌}
use Rattle.std.specs.List.{list_any}
use Rattle.std.proofs.lemmas.Slice.Eq.{bytes_eq-Decides}
use Rattle.ax_laws.proofs.Tests.{neither, not-both}
use Rattle.ax_values.specs.Grammar.{Name}
use Rattle.ax_values.specs.Words.{same_name}
use Rattle.ax_projections.specs.Table.{Entry, look_up, put_entry}
use Rattle.ax_projections.specs.Rebuild.{without, first_names}
use Rattle.ax_projections.specs.declared.table.Positioned.{Positioned}

-- ---- equal names

pub name-is : (a b : Name) → same_name a b ≡ true → a ≡ b
name-is a b h = (bytes_eq-Decides a b).0 h

pub name-refl : (a : Name) → same_name a a ≡ true
name-refl a = (bytes_eq-Decides a a).1 refl

by-sym : (a b : Name) (p q : Bool) → same_name a b ≡ p → same_name b a ≡ q → p ≡ q
by-sym a b true true h k = refl
by-sym a b false false h k = refl
by-sym a b true false h k = let e = name-is a b h in sym (subst (λ x. same_name x a ≡ true) e (name-refl a)) ∙ k
by-sym a b false true h k = sym h ∙ subst (λ x. same_name x b ≡ true) (name-is b a k) (name-refl b)

pub name-sym : (a b : Name) → same_name a b ≡ same_name b a
name-sym a b = by-sym a b (same_name a b) (same_name b a) refl refl

-- equal names have the same others
pub name-alike : (a b m : Name) → same_name a b ≡ true → same_name a m ≡ same_name b m
name-alike a b m h = ap (λ x. same_name x m) (name-is a b h)

-- ---- a name that is put behind others, unless it is among them

abbrev pub push_new : Name → List Name → List Name
push_new a [] = a ∷ []
push_new a (k ∷ ks) = if same_name a k then k ∷ ks else k ∷ push_new a ks

keep : Bool → Name → List Name → List Name
keep b m ms = cond (not b) (m ∷ ms) ms

without-push : (n a : Name) (ms : List Name) → without n (push_new a ms) ≡ (if same_name a n then without n ms else push_new a (without n ms))
without-push n a [] = ap (λ b. cond (not b) (a ∷ []) []) (name-sym n a) ∙ at (same_name a n)
  where
    at : (b : Bool) → cond (not b) (a ∷ []) [] ≡ (if b then [] else a ∷ [])
    at true = refl
    at false = refl
without-push n a (m ∷ ms) = at (same_name a m) refl (same_name a n) refl (same_name n m) refl (without-push n a ms)
  where
    at : (p : Bool) → same_name a m ≡ p → (q : Bool) → same_name a n ≡ q → (r : Bool) → same_name n m ≡ r → without n (push_new a ms) ≡ (if same_name a n then without n ms else push_new a (without n ms))
        → without n (if p then m ∷ ms else m ∷ push_new a ms) ≡ (if q then cond (not r) (m ∷ without n ms) (without n ms) else push_new a (cond (not r) (m ∷ without n ms) (without n ms)))
    at true hp true hq r hr h = ap (λ b. cond (not b) (m ∷ without n ms) (without n ms)) hr
    at true hp false hq true hr h = absurd (true≢false (sym (ap (λ x. same_name n x) (name-is a m hp) ∙ hr) ∙ name-sym n a ∙ hq))
    at true hp false hq false hr h = ap (λ b. cond (not b) (m ∷ without n ms) (without n ms)) hr ∙ sym (ap (λ b. if b then m ∷ without n ms else m ∷ push_new a (without n ms)) hp)
    at false hp true hq r hr h = ap (λ b. cond (not b) (m ∷ without n (push_new a ms)) (without n (push_new a ms))) hr ∙ ap (λ ks. cond (not r) (m ∷ ks) ks) (h ∙ ap (λ b. if b then without n ms else push_new a (without n ms)) hq)
    at false hp false hq true hr h = ap (λ b. cond (not b) (m ∷ without n (push_new a ms)) (without n (push_new a ms))) hr ∙ h ∙ ap (λ b. if b then without n ms else push_new a (without n ms)) hq
    at false hp false hq false hr h = ap (λ b. cond (not b) (m ∷ without n (push_new a ms)) (without n (push_new a ms))) hr ∙ ap (λ ks. m ∷ ks) (h ∙ ap (λ b. if b then without n ms else push_new a (without n ms)) hq) ∙ sym (ap (λ b. if b then m ∷ without n ms else m ∷ push_new a (without n ms)) hp)

firsts-push : (ns : List Name) (a : Name) → first_names (ns ++ a ∷ []) ≡ push_new a (first_names ns)
firsts-push [] a = refl
firsts-push (n ∷ ns) a =
    ap (λ ks. n ∷ without n ks) (firsts-push ns a) ∙ ap (λ ks. n ∷ ks) (without-push n a (first_names ns)) ∙ at (same_name a n)
  where
    at : (b : Bool) → n ∷ (if b then without n (first_names ns) else push_new a (without n (first_names ns))) ≡ (if b then n ∷ without n (first_names ns) else n ∷ push_new a (without n (first_names ns)))
    at true = refl
    at false = refl

push-twice : (a : Name) (ms : List Name) → push_new a (push_new a ms) ≡ push_new a ms
push-twice a [] = ap (λ b. if b then a ∷ [] else a ∷ a ∷ []) (name-refl a)
push-twice a (m ∷ ms) = at (same_name a m) refl (push-twice a ms)
  where
    at : (b : Bool) → same_name a m ≡ b → push_new a (push_new a ms) ≡ push_new a ms → push_new a (if b then m ∷ ms else m ∷ push_new a ms) ≡ (if b then m ∷ ms else m ∷ push_new a ms)
    at true e h = ap (λ b. if b then m ∷ ms else m ∷ push_new a ms) e
    at false e h = ap (λ b. if b then m ∷ push_new a ms else m ∷ push_new a (push_new a ms)) e ∙ ap (λ ks. m ∷ ks) h

-- all are the name
abbrev pub AreAll : Name → List Name → Type 0
AreAll a [] = Unit {0}
AreAll a (n ∷ ns) = (n ≡ a) × AreAll a ns

pub firsts-pushed : (ns : List Name) (a n : Name) (new : List Name) → AreAll a (n ∷ new) → first_names (ns ++ n ∷ new) ≡ push_new a (first_names ns)
firsts-pushed ns a n [] h = ap (λ n. first_names (ns ++ n ∷ [])) h.0 ∙ firsts-push ns a
firsts-pushed ns a n (m ∷ new) h =
    ap first_names (sym (append_assoc ns (n ∷ []) (m ∷ new)))
    ∙ firsts-pushed (ns ++ n ∷ []) a m new h.1
    ∙ ap (push_new a) (ap (λ n. first_names (ns ++ n ∷ [])) h.0 ∙ firsts-push ns a)
    ∙ push-twice a (first_names ns)

-- ---- no two are the same

abbrev pub differ : List Name → Bool
differ [] = true
differ (k ∷ ks) = not (list_any (same_name k) ks) && differ ks

any-without : (k n : Name) (ms : List Name) → list_any (same_name k) ms ≡ false → list_any (same_name k) (without n ms) ≡ false
any-without k n [] h = refl
any-without k n (m ∷ ms) h = at (same_name n m) (neither (same_name k m) (list_any (same_name k) ms) h).0 (any-without k n ms (neither (same_name k m) (list_any (same_name k) ms) h).1)
  where
    at : (b : Bool) → same_name k m ≡ false → list_any (same_name k) (without n ms) ≡ false → list_any (same_name k) (cond (not b) (m ∷ without n ms) (without n ms)) ≡ false
    at true p q = q
    at false p q = ap (λ b. b || list_any (same_name k) (without n ms)) p ∙ q

none-without : (n : Name) (ms : List Name) → list_any (same_name n) (without n ms) ≡ false
none-without n [] = refl
none-without n (m ∷ ms) = at (same_name n m) refl (none-without n ms)
  where
    at : (b : Bool) → same_name n m ≡ b → list_any (same_name n) (without n ms) ≡ false → list_any (same_name n) (cond (not b) (m ∷ without n ms) (without n ms)) ≡ false
    at true e h = h
    at false e h = ap (λ b. b || list_any (same_name n) (without n ms)) e ∙ h

differ-without : (n : Name) (ms : List Name) → differ ms ≡ true → differ (without n ms) ≡ true
differ-without n [] h = refl
differ-without n (m ∷ ms) h =
    let k = not-both (list_any (same_name m) ms) (differ ms) h in
    at (same_name n m) (any-without m n ms k.0) (differ-without n ms k.1)
  where
    at : (b : Bool) → list_any (same_name m) (without n ms) ≡ false → differ (without n ms) ≡ true → differ (cond (not b) (m ∷ without n ms) (without n ms)) ≡ true
    at true p q = q
    at false p q = ap (λ b. not b && differ (without n ms)) p ∙ q

pub differ-firsts : (ns : List Name) → differ (first_names ns) ≡ true
differ-firsts [] = refl
differ-firsts (n ∷ ns) = ap (λ b. not b && differ (without n (first_names ns))) (none-without n (first_names ns)) ∙ differ-without n (first_names ns) (differ-firsts ns)

-- whether a name is among them
any-other : (a n : Name) (ms : List Name) → same_name a n ≡ false → list_any (same_name a) (without n ms) ≡ list_any (same_name a) ms
any-other a n [] h = refl
any-other a n (m ∷ ms) h = at (same_name n m) refl (any-other a n ms h)
  where
    at : (b : Bool) → same_name n m ≡ b → list_any (same_name a) (without n ms) ≡ list_any (same_name a) ms → list_any (same_name a) (cond (not b) (m ∷ without n ms) (without n ms)) ≡ (same_name a m || list_any (same_name a) ms)
    at true e k = k ∙ ap (λ b. b || list_any (same_name a) ms) (sym h ∙ ap (same_name a) (name-is n m e))
    at false e k = ap (λ b. same_name a m || b) k

pub any-firsts : (a : Name) (ns : List Name) → list_any (same_name a) (first_names ns) ≡ list_any (same_name a) ns
any-firsts a [] = refl
any-firsts a (n ∷ ns) = at (same_name a n) refl (any-firsts a ns)
  where
    at : (b : Bool) → same_name a n ≡ b → list_any (same_name a) (first_names ns) ≡ list_any (same_name a) ns → (b || list_any (same_name a) (without n (first_names ns))) ≡ (b || list_any (same_name a) ns)
    at true e h = refl
    at false e h = any-other a n (first_names ns) e ∙ h

pub length-without : (n : Name) (ms : List Name) → length (without n ms) ≤ length ms
length-without n [] = omega arith
length-without n (m ∷ ms) = at (same_name n m) (length-without n ms)
  where
    at : (b : Bool) → length (without n ms) ≤ length ms → length (cond (not b) (m ∷ without n ms) (without n ms)) ≤ suc (length ms)
    at true h = omega (arith, h)
    at false h = omega (arith, h)

pub length-firsts : (ns : List Name) → length (first_names ns) ≤ length ns
length-firsts [] = omega arith
length-firsts (n ∷ ns) = let h = length-firsts ns in let k = length-without n (first_names ns) in omega (arith, h, k)

-- ---- rows under names

abbrev pub row : (Name → Positioned) → Name → Entry
row f k = record { name = k; value = f k }

map-apart : (f g : Name → Positioned) (a : Name) → ((b : Name) → same_name a b ≡ false → g b ≡ f b) → (ks : List Name) → list_any (same_name a) ks ≡ false → map (row g) ks ≡ map (row f) ks
map-apart f g a h [] n = refl
map-apart f g a h (k ∷ ks) n =
    let e = neither (same_name a k) (list_any (same_name a) ks) n in
    ap (λ v. record { name = k; value = v } ∷ map (row g) ks) (h k e.0) ∙ ap (λ es. row f k ∷ es) (map-apart f g a h ks e.1)

pub map-put : (f g : Name → Positioned) (a : Name) → ((b : Name) → same_name a b ≡ false → g b ≡ f b) → (ks : List Name) → differ ks ≡ true → map (row g) (push_new a ks) ≡ put_entry a (g a) (map (row f) ks)
map-put f g a h [] d = refl
map-put f g a h (k ∷ ks) d = at (same_name a k) refl (not-both (list_any (same_name k) ks) (differ ks) d).0 (map-put f g a h ks (not-both (list_any (same_name k) ks) (differ ks) d).1)
  where
    at : (b : Bool) → same_name a k ≡ b → list_any (same_name k) ks ≡ false → map (row g) (push_new a ks) ≡ put_entry a (g a) (map (row f) ks)
        → map (row g) (if b then k ∷ ks else k ∷ push_new a ks) ≡ (if b then record { name = k; value = g a } ∷ map (row f) ks else row f k ∷ put_entry a (g a) (map (row f) ks))
    at true e n m =
        let same = name-is a k e in
        ap (λ v. record { name = k; value = v } ∷ map (row g) ks) (sym (ap g same)) ∙ ap (λ es. record { name = k; value = g a } ∷ es) (map-apart f g a h ks (ap (λ x. list_any (same_name x) ks) same ∙ n))
    at false e n m = ap (λ v. record { name = k; value = v } ∷ map (row g) (push_new a ks)) (h k e) ∙ ap (λ es. row f k ∷ es) m

pub found : (f : Name → Positioned) (a : Name) (ks : List Name) → list_any (same_name a) ks ≡ true → look_up a (map (row f) ks) ≡ Some (f a)
found f a [] h = cc
found f a (k ∷ ks) h = at (same_name a k) refl h (found f a ks)
  where
    at : (b : Bool) → same_name a k ≡ b → (b || list_any (same_name a) ks) ≡ true → (list_any (same_name a) ks ≡ true → look_up a (map (row f) ks) ≡ Some (f a))
        → option_map (λ (e : Entry). e.value) (cond b (Some (row f k)) (find (λ (e : Entry). same_name a e.name) (map (row f) ks))) ≡ Some (f a)
    at true e n m = ap (λ x. Some (f x)) (sym (name-is a k e))
    at false e n m = m n

pub missing : (f : Name → Positioned) (a : Name) (ks : List Name) → list_any (same_name a) ks ≡ false → look_up a (map (row f) ks) ≡ None
missing f a [] h = refl
missing f a (k ∷ ks) h =
    let e = neither (same_name a k) (list_any (same_name a) ks) h in
    ap (λ b. option_map (λ (x : Entry). x.value) (cond b (Some (row f k)) (find (λ (x : Entry). same_name a x.name) (map (row f) ks)))) e.0 ∙ missing f a ks e.1
