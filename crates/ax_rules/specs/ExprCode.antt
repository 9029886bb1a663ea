-- The code of expressions, by which their values are told apart: an expression as the list of its nodes, an operation behind its sides.
use Rattle.std.specs.Prelude.{◌≡◌, ℕ, zero, suc, List, [], ◌∷◌, ◌++◌, ◌⊎◌, ℤ, pos}
use Rattle.std.specs.Coded.{Coded, code_by, coded⊎, coded_ℕ, coded_ℤ, coded_list}
use Rattle.std.proofs.Common.{refl, ap, sym, ◌∙◌, append_assoc}
use mathlib.Core.Logic.{inl, inr}
use Rattle.ax_values.specs.Grammar.{Name}
use Rattle.ax_rules.specs.Expr.{Expr, constant, field, argument, sum, difference, product}

-- a leaf, or the number of an operation on the two expressions before it
abbrev Node : Type 0
Node = (ℤ ⊎ ℕ) ⊎ (Name ⊎ ℕ)

abbrev nodes : Expr → List Node
nodes (constant z) = inl (inl z) ∷ []
nodes (field k) = inl (inr k) ∷ []
nodes (argument name) = inr (inl name) ∷ []
nodes (sum e f) = nodes e ++ (nodes f ++ inr (inr 0) ∷ [])
nodes (difference e f) = nodes e ++ (nodes f ++ inr (inr 1) ∷ [])
nodes (product e f) = nodes e ++ (nodes f ++ inr (inr 2) ∷ [])

abbrev operation : ℕ → Expr → Expr → Expr
operation zero e f = sum e f
operation (suc zero) e f = difference e f
operation (suc (suc n)) e f = product e f

abbrev joined : ℕ → List Expr → List Expr
joined n (f ∷ e ∷ es) = operation n e f ∷ es
joined n (f ∷ []) = f ∷ []
joined n [] = []

abbrev pushed : Node → List Expr → List Expr
pushed (inl (inl z)) es = constant z ∷ es
pushed (inl (inr k)) es = field k ∷ es
pushed (inr (inl name)) es = argument name ∷ es
pushed (inr (inr n)) es = joined n es

abbrev read : List Node → List Expr → List Expr
read [] es = es
read (n ∷ ns) es = read ns (pushed n es)

abbrev first : List Expr → Expr
first [] = constant (pos 0)
first (e ∷ es) = e

-- two sides and what joins them, read in front of more
sides : (e f : Expr) (n : ℕ) (ns : List Node) (es : List Expr)
    → ((ms : List Node) (fs : List Expr) → read (nodes e ++ ms) fs ≡ read ms (e ∷ fs))
    → ((ms : List Node) (fs : List Expr) → read (nodes f ++ ms) fs ≡ read ms (f ∷ fs))
    → read ((nodes e ++ (nodes f ++ inr (inr n) ∷ [])) ++ ns) es ≡ read ns (operation n e f ∷ es)
sides e f n ns es left right =
    ap (λ r. read r es) (append_assoc (nodes e) (nodes f ++ inr (inr n) ∷ []) ns)
    ∙ (left ((nodes f ++ inr (inr n) ∷ []) ++ ns) es
    ∙ (ap (λ r. read r (e ∷ es)) (append_assoc (nodes f) (inr (inr n) ∷ []) ns) ∙ right (inr (inr n) ∷ ns) (e ∷ es)))

pub read-nodes : (e : Expr) (ns : List Node) (es : List Expr) → read (nodes e ++ ns) es ≡ read ns (e ∷ es)
read-nodes (constant z) ns es = refl
read-nodes (field k) ns es = refl
read-nodes (argument name) ns es = refl
read-nodes (sum e f) ns es = sides e f 0 ns es (read-nodes e) (read-nodes f)
read-nodes (difference e f) ns es = sides e f 1 ns es (read-nodes e) (read-nodes f)
read-nodes (product e f) ns es = sides e f 2 ns es (read-nodes e) (read-nodes f)

abbrev expr_in : List Node → Expr
expr_in ns = first (read ns [])

no_more : (ns : List Node) → ns ++ [] ≡ ns
no_more [] = refl
no_more (n ∷ ns) = ap (λ r. n ∷ r) (no_more ns)

pub expr_in-nodes : (e : Expr) → expr_in (nodes e) ≡ e
expr_in-nodes e = ap (λ r. first (read r [])) (sym (no_more (nodes e))) ∙ ap first (read-nodes e [] [])

abbrev pub coded_expr : Coded Expr
coded_expr = code_by (List Node) (coded_list (coded⊎ (coded⊎ coded_ℤ coded_ℕ) (coded⊎ (coded_list coded_ℕ) coded_ℕ))) nodes expr_in expr_in-nodes
