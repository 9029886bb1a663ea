use Rattle.std.proofs.Common.{◌≡◌, ℕ, ◌<◌, ◌≤◌, length, get_or, subst}
use Rattle.std.specs.List.Sorted.{IsBinarySearchResult}
use Rattle.std.specs.Ordering.{nat_cmp}
use Rattle.ax_step_work.proofs.Opening.{found-lacks, gap-after, gap-covers, end-covers}
use Rattle.ax_step_work.proofs.reach.next_lacking.Goals as goal

pub returns-in-Ok-clause-lacking : goal.returns-in-Ok-clause-lacking
returns-in-Ok-clause-lacking c =
    let search : IsBinarySearchResult (λ y. nat_cmp y c.args.from) c.args.part.now.gaps c.binary_search.result = subst (λ xs. IsBinarySearchResult (λ y. nat_cmp y c.args.from) xs c.binary_search.result) c.gaps.ensures.value c.binary_search.ensures.position in
    found-lacks c.args.part.now c.gaps.ensures.canonical c.args.from c.binary_search.result search c.in-Ok.field-0 c.in-Ok.is

pub returns-in-Some-clause-from : goal.returns-in-Some-clause-from
returns-in-Some-clause-from c =
    let search : IsBinarySearchResult (λ y. nat_cmp y c.args.from) c.args.part.now.gaps c.binary_search.result = subst (λ xs. IsBinarySearchResult (λ y. nat_cmp y c.args.from) xs c.binary_search.result) c.gaps.ensures.value c.binary_search.ensures.position in
    let at = subst (λ xs. (c.in-Err.place < length xs) × ((d : ℕ) → c.in-Some.gap.now ≡ get_or xs c.in-Err.place d)) c.gaps-in-Err.ensures.value c.in-Some.ensures.lookup.3 in
    gap-after c.args.part.now c.gaps.ensures.canonical c.args.from c.binary_search.result search c.in-Err.place c.in-Some.gap.now c.in-Err.is at.0 (at.1 0)

pub returns-in-Some-clause-between : goal.returns-in-Some-clause-between
returns-in-Some-clause-between c =
    let search : IsBinarySearchResult (λ y. nat_cmp y c.args.from) c.args.part.now.gaps c.binary_search.result = subst (λ xs. IsBinarySearchResult (λ y. nat_cmp y c.args.from) xs c.binary_search.result) c.gaps.ensures.value c.binary_search.ensures.position in
    let at = subst (λ xs. (c.in-Err.place < length xs) × ((d : ℕ) → c.in-Some.gap.now ≡ get_or xs c.in-Err.place d)) c.gaps-in-Err.ensures.value c.in-Some.ensures.lookup.3 in
    gap-covers c.args.part.now c.gaps.ensures.canonical c.args.from c.binary_search.result search c.in-Err.place c.in-Some.gap.now c.in-Err.is at.0 (at.1 0)

pub returns-in-None-clause-between : goal.returns-in-None-clause-between
returns-in-None-clause-between c = λ index le lt.
    let search : IsBinarySearchResult (λ y. nat_cmp y c.args.from) c.args.part.now.gaps c.binary_search.result = subst (λ xs. IsBinarySearchResult (λ y. nat_cmp y c.args.from) xs c.binary_search.result) c.gaps.ensures.value c.binary_search.ensures.position in
    let past : length c.args.part.now.gaps ≤ c.in-Err.place = subst (λ xs. length xs ≤ c.in-Err.place) c.gaps-in-Err.ensures.value c.in-None.ensures.lookup.3 in
    end-covers c.args.part.now c.gaps.ensures.canonical c.args.from c.binary_search.result search c.in-Err.place c.in-Err.is past index le (subst (λ (n : ℕ). index < n) c.next-in-None.ensures.value lt)
