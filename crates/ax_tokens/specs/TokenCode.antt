-- The code of tokens, by which their values are told apart: a token as the list of its nodes, a merged one behind its halves.
use Rattle.std.specs.Prelude.{◌≡◌, ℕ, List, [], ◌∷◌, ◌++◌, Option, Some, None, ◌⊎◌}
use Rattle.std.specs.Coded.{Coded, code_by, coded×, coded⊎, coded_ℕ, coded_list, coded_option}
use Rattle.std.proofs.Common.{refl, ap, sym, ◌∙◌, append_assoc}
use mathlib.Core.Logic.{inl, inr}
use Rattle.ax_tokens.specs.Tokens.{Token, plain, merged, replay}
use Rattle.ax_tokens.specs.Plain.{Plain}

abbrev Pair : Type 0
Pair = ℕ × List ℕ

abbrev pair : Plain → Pair
pair p = (p.next, p.gaps)

abbrev part : Pair → Plain
part x = record { next = x.0; gaps = x.1 }

-- nothing joins the two tokens before it
abbrev Node : Type 0
Node = Option (Pair ⊎ (Pair × Pair))

abbrev nodes : Token → List Node
nodes (plain p) = Some (inl (pair p)) ∷ []
nodes (merged l u) = nodes l ++ (nodes u ++ None ∷ [])
nodes (replay r c) = Some (inr (pair r, pair c)) ∷ []

abbrev joined : List Token → List Token
joined (u ∷ l ∷ ts) = merged l u ∷ ts
joined (u ∷ []) = u ∷ []
joined [] = []

abbrev pushed : Node → List Token → List Token
pushed (Some (inl x)) ts = plain (part x) ∷ ts
pushed (Some (inr x)) ts = replay (part x.0) (part x.1) ∷ ts
pushed None ts = joined ts

abbrev read : List Node → List Token → List Token
read [] ts = ts
read (n ∷ ns) ts = read ns (pushed n ts)

abbrev first : List Token → Token
first [] = plain (record { next = 0; gaps = [] })
first (t ∷ ts) = t

pub read-nodes : (t : Token) (ns : List Node) (ts : List Token) → read (nodes t ++ ns) ts ≡ read ns (t ∷ ts)
read-nodes (plain p) ns ts = refl
read-nodes (merged l u) ns ts =
    ap (λ r. read r ts) (append_assoc (nodes l) (nodes u ++ None ∷ []) ns)
    ∙ (read-nodes l ((nodes u ++ None ∷ []) ++ ns) ts
    ∙ (ap (λ r. read r (l ∷ ts)) (append_assoc (nodes u) (None ∷ []) ns) ∙ read-nodes u (None ∷ ns) (l ∷ ts)))
read-nodes (replay r c) ns ts = refl

abbrev token_in : List Node → Token
token_in ns = first (read ns [])

no_more : (ns : List Node) → ns ++ [] ≡ ns
no_more [] = refl
no_more (n ∷ ns) = ap (λ r. n ∷ r) (no_more ns)

pub token_in-nodes : (t : Token) → token_in (nodes t) ≡ t
token_in-nodes t = ap (λ r. first (read r [])) (sym (no_more (nodes t))) ∙ ap first (read-nodes t [] [])

abbrev coded_pair : Coded Pair
coded_pair = coded× coded_ℕ (coded_list coded_ℕ)

abbrev pub coded_token : Coded Token
coded_token = code_by (List Node) (coded_list (coded_option (coded⊎ coded_pair (coded× coded_pair coded_pair)))) nodes token_in token_in-nodes
