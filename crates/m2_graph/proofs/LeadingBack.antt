-- Imports that lead back.
use Rattle.std.proofs.Common.{◌≡◌, ◌<◌, ◌≤◌, ◌↔◌, ℕ, ◌+◌, Bool, false, List, [], ◌∷◌, ◌++◌, length, take, drop, get_or, map, refl, sym, ap, subst, ◌∙◌, inl, inr, arith, append_assoc, Option, Some, None, All, ◌||◌, ◌==◌, eq-eqb, IsTrue}
use Rattle.std.specs.List.{flat_map}
use Rattle.std.specs.Borrow.{Bor}
use Rattle.std.proofs.lemmas.Bool.{cases_lt, or_left, or_right, eqb-true, false≢true}
use Rattle.std.proofs.lemmas.Grind.{flat_map-append}
use Rattle.std.proofs.lemmas.List.{take-append-drop, drop_more, take_more, take_all, flat_map_more}
use Rattle.std.proofs.lemmas.List.Elements.{All-push, All-append}
use Rattle.m2_tree.specs.declared.decl.Module.{Module}
use Rattle.m2_tree.specs.declared.name.Ident.{Ident}
use Rattle.m2_tree.specs.declared.decl.Import.{Import}
use Rattle.m2_tree.specs.declared.pos.Pos.{Pos}
use Rattle.std.specs.Prelude.{MatchOption}
use Rattle.graph_walk.specs.Links.{Leads, AreNodes, has, flag}
use Rattle.m2_graph.specs.Imports.{definition_of, defines, imports_of, links, named_by}
use Rattle.m2_graph.specs.Reported.{LeadsBack, AreLeading, IsBack, IsFirstBack, IsReportedCycle}
use Rattle.m2_graph.proofs.Importing.{first_within, links_are_nodes, module_at}
use Rattle.graph_walk.specs.Turned.{IsTurned}
use Rattle.graph_walk.proofs.Chains.{or_true, first_step}
use Rattle.graph_walk.proofs.Turning.{turned_leads}
use Rattle.m2_graph.proofs.Cycles.{none_back}
use Rattle.std.proofs.lemmas.Option.{slice_get-get_or}
use Rattle.std.proofs.lemmas.List.{length-map, get_or_past}

pub pairs_nodes : (ms : List Module) (pairs : List (List ℕ)) → pairs ≡ links ms → AreNodes pairs
pairs_nodes ms pairs e = subst AreNodes (sym e) (links_are_nodes ms)

pub pairs_many : (ms : List Module) (pairs : List (List ℕ)) → pairs ≡ links ms → length pairs ≡ length ms
pairs_many ms pairs e = ap length e ∙ length-links ms
  where
    length-links : (xs : List Module) → length (links xs) ≡ length xs
    length-links xs = rw length-map refl

pub pairs_within : (ms : List Module) (pairs : List (List ℕ)) (name : List ℕ) (to : ℕ) → pairs ≡ links ms
    → Some to ≡ definition_of ms name → to < length pairs
pairs_within ms pairs name to e h = omega (arith, pairs_many ms pairs e, first_within (defines name) ms to (sym h))

-- the marks of those that lead to a node, as a walk against the pairs has set them
pub leading_so : (ms : List Module) (pairs back : List (List ℕ)) (node : ℕ) (flags now : List Bool) → pairs ≡ links ms
    → IsTurned pairs back → node < length ms → ((k : ℕ) → IsTrue (flag flags k) ↔ Leads back node k) → now ≡ flags
    → AreLeading ms node now
leading_so ms pairs back node flags now e t l h e2 k =
    subst (λ (fs : List Bool). IsTrue (flag fs k) ↔ Leads (links ms) k node) (sym e2)
    (subst (λ (ps : List (List ℕ)). IsTrue (flag flags k) ↔ Leads ps k node) e
    (let q = turned_leads pairs back (pairs_nodes ms pairs e) t k node (omega (arith, pairs_many ms pairs e)) in
    ((λ f. q.0 ((h k).0 f)), (λ g. (h k).1 (q.1 g)))))

pub back_some : (ms : List Module) (node to : ℕ) (x : Ident) (flags : List Bool) → Some to ≡ definition_of ms x.name
    → AreLeading ms node flags → IsTrue ((to == node) || flag flags to) ↔ LeadsBack ms node x
back_some ms node to x flags d h = (
  (λ t. elim (or_true (to == node) (flag flags to) t)
      [ inl s ↦ (to, sym d, inl (eqb-true to node s)) | inr f ↦ (to, sym d, inr ((h to).0 f)) ]),
  (λ b. let s : Some b.0 ≡ Some to = sym b.1 ∙ sym d in let r : b.0 ≡ to = cc in
      elim b.2 [
        | inl same ↦ or_left (to == node) (flag flags to) (eq-eqb to node (sym r ∙ same))
        | inr l ↦ or_right
            (to == node) (flag flags to) ((h to).1 (subst (λ (k : ℕ). Leads (links ms) k node) r l))
      ]),
)

pub back_none : (ms : List Module) (node : ℕ) (x : Ident) → None ≡ definition_of ms x.name
    → IsTrue false ↔ LeadsBack ms node x
back_none ms node x d = ((λ t. absurd (false≢true t)), (λ b. let s : None ≡ Some b.0 = d ∙ b.1 in cc))

split_at : {X : Type 0} (xs : List X) (i : ℕ) (x : X) → i < length xs → x ≡ get_or xs i x
    → xs ≡ take i xs ++ x ∷ drop (i + 1) xs
split_at xs i x l e = sym (take-append-drop i xs)
    ∙ ap (λ ys. take i xs ++ ys) (drop_more xs i x l ∙ ap (λ y. y ∷ drop (i + 1) xs) (sym e))

pub back_here : (ms : List Module) (node : ℕ) (xs : List Ident) (i : ℕ) (x : Ident) → i < length xs → x ≡ get_or xs i x
    → All (λ y. LeadsBack ms node y → ⊥) (take i xs) → LeadsBack ms node x → IsBack ms node xs x.pos
back_here ms node xs i x l e none b = record {
  before = take i xs;
  back = x;
  after = drop (i + 1) xs;
  written = split_at xs i x l e;
  leads_back = b;
  none_before = none;
  place = refl;
}

pub back_later : (ms : List Module) (node : ℕ) (xs : List Ident) (i : ℕ) (x : Ident) → i < length xs → x ≡ get_or xs i x
    → All (λ y. LeadsBack ms node y → ⊥) (take i xs) → (LeadsBack ms node x → ⊥)
    → All (λ y. LeadsBack ms node y → ⊥) (take (i + 1) xs)
back_later ms node xs i x l e none b = subst (λ (ys : List Ident). All (λ y. LeadsBack ms node y → ⊥) ys)
    (ap (λ y. take i xs ++ y ∷ []) e ∙ sym (take_more xs i x l))
    (All-push (λ y. LeadsBack ms node y → ⊥) (take i xs) x none b)

pub back_never : (ms : List Module) (node : ℕ) (xs : List Ident) (i : ℕ) → length xs ≤ i
    → All (λ y. LeadsBack ms node y → ⊥) (take i xs) → All (λ y. LeadsBack ms node y → ⊥) xs
back_never ms node xs i g none = subst (λ (ys : List Ident). All (λ y. LeadsBack ms node y → ⊥) ys) (take_all i xs g)
    none

-- ---- several lists of imports

back_within : (ms : List Module) (node : ℕ) (first mid last all : List Ident) (pos : Pos) → all ≡ first ++ (mid ++ last)
    → All (λ y. LeadsBack ms node y → ⊥) first → IsBack ms node mid pos → IsBack ms node all pos
back_within ms node first mid last all pos e none b = record {
  before = first ++ b.before;
  back = b.back;
  after = b.after ++ last;
  written = e ∙ ap (λ (ys : List Ident). first ++ (ys ++ last)) b.written
      ∙ ap (λ (ys : List Ident). first ++ ys) (append_assoc b.before (b.back ∷ b.after) last)
      ∙ sym (append_assoc first b.before (b.back ∷ (b.after ++ last)));
  leads_back = b.leads_back;
  none_before = All-append (λ y. LeadsBack ms node y → ⊥) first b.before none b.none_before;
  place = b.place;
}

pub back_here_in : {X : Type 0} (g : X → List Ident) (ms : List Module) (node : ℕ) (xs : List X) (i : ℕ) (x : X)
    (pos : Pos) → i < length xs → x ≡ get_or xs i x → All (λ y. LeadsBack ms node y → ⊥) (flat_map g (take i xs))
    → IsBack ms node (g x) pos → IsBack ms node (flat_map g xs) pos
back_here_in g ms node xs i x pos l e none b =
    back_within ms node (flat_map g (take i xs)) (g x) (flat_map g (drop (i + 1) xs)) (flat_map g xs) pos
    (ap (flat_map g) (split_at xs i x l e) ∙ flat_map-append g (take i xs) (x ∷ drop (i + 1) xs)) none b

pub back_later_in : {X : Type 0} (g : X → List Ident) (ms : List Module) (node : ℕ) (xs : List X) (i : ℕ) (x : X)
    → i < length xs → x ≡ get_or xs i x → All (λ y. LeadsBack ms node y → ⊥) (flat_map g (take i xs))
    → All (λ y. LeadsBack ms node y → ⊥) (g x) → All (λ y. LeadsBack ms node y → ⊥) (flat_map g (take (i + 1) xs))
back_later_in g ms node xs i x l e none b =
    subst (λ (ys : List Ident). All (λ y. LeadsBack ms node y → ⊥) ys)
    (flat_map_more g [] (take i xs) x ∙ ap (flat_map g) (ap (λ y. take i xs ++ y ∷ []) e ∙ sym (take_more xs i x l)))
    (All-append (λ y. LeadsBack ms node y → ⊥) (flat_map g (take i xs)) (g x) none b)

pub back_never_in : {X : Type 0} (g : X → List Ident) (ms : List Module) (node : ℕ) (xs : List X) (i : ℕ)
    → length xs ≤ i → All (λ y. LeadsBack ms node y → ⊥) (flat_map g (take i xs))
    → All (λ y. LeadsBack ms node y → ⊥) (flat_map g xs)
back_never_in g ms node xs i h none = subst (λ ys. All (λ y. LeadsBack ms node y → ⊥) (flat_map g ys)) (take_all i xs h)
    none

-- ---- the imports of a module

pub back_of_names : (ms : List Module) (node : ℕ) (from : Option Ident) (names borrowed : List Ident)
    (found : Option Pos) → from ≡ None → borrowed ≡ names → IsFirstBack ms node borrowed found
    → IsFirstBack ms node (named_by from names) found
back_of_names ms node from names borrowed found e1 e2 h =
    subst (λ (xs : List Ident). IsFirstBack ms node xs found)
    (e2 ∙ ap (λ (o : Option Ident). named_by o names) (sym e1)) h

abbrev named_in : Import → List Ident
named_in i = named_by i.from i.names

pub found_in : (ms : List Module) (node : ℕ) (tree : Module) (xs : List Import) (i : ℕ) (x : Import)
    (found : Option Pos) (pos : Pos) → xs ≡ tree.imports → i < length xs → x ≡ get_or xs i x
    → All (λ y. LeadsBack ms node y → ⊥) (flat_map named_in (take i xs)) → IsFirstBack ms node (named_in x) found
    → found ≡ Some pos → IsBack ms node (imports_of tree) pos
found_in ms node tree xs i x found pos e l is none h so =
    subst (λ (ys : List Import). IsBack ms node (flat_map named_in ys) pos) e
    (back_here_in named_in ms node xs i x pos l is none
    (subst (λ (o : Option Pos). IsFirstBack ms node (named_in x) o) so h))

pub missed_in : (ms : List Module) (node : ℕ) (xs : List Import) (i : ℕ) (x : Import) (found : Option Pos)
    → i < length xs → x ≡ get_or xs i x → All (λ y. LeadsBack ms node y → ⊥) (flat_map named_in (take i xs))
    → IsFirstBack ms node (named_in x) found → found ≡ None
    → All (λ y. LeadsBack ms node y → ⊥) (flat_map named_in (take (i + 1) xs))
missed_in ms node xs i x found l is none h so =
    back_later_in named_in ms node xs i x l is none
    (subst (λ (o : Option Pos). IsFirstBack ms node (named_in x) o) so h)

pub never_in : (ms : List Module) (node : ℕ) (tree : Module) (xs : List Import) (i : ℕ) → xs ≡ tree.imports
    → length xs ≤ i → All (λ y. LeadsBack ms node y → ⊥) (flat_map named_in (take i xs))
    → All (λ y. LeadsBack ms node y → ⊥) (imports_of tree)
never_in ms node tree xs i e g none = subst
    (λ (ys : List Import). All (λ y. LeadsBack ms node y → ⊥) (flat_map named_in ys)) e
    (back_never_in named_in ms node xs i g none)

-- ---- the first definition on a cycle

abbrev trees_in : List (Bor Module) → List Module
trees_in xs = map (λ (m : Bor Module). m.now) xs

pub within : (xs : List (Bor Module)) (node : ℕ) → node < length xs → node < length (trees_in xs)
within xs node l = rw length-map l

pub cycle_reported : (xs : List (Bor Module)) (pairs : List (List ℕ)) (node : ℕ) (b : Bor Module) (place : Option Pos)
    (pos : Pos) → pairs ≡ links (trees_in xs) → node < length xs → b ≡ get_or xs node b → Leads pairs node node
    → ((other : ℕ) → other < node → Leads pairs other other → ⊥)
    → IsFirstBack (trees_in xs) node (imports_of b.now) place → place ≡ Some pos
    → IsReportedCycle (trees_in xs) node pos
cycle_reported xs pairs node b place pos e l is on first found so = record {
  on_cycle = subst (λ (ps : List (List ℕ)). Leads ps node node) e on;
  first = λ other m h. first other m (subst (λ (ps : List (List ℕ)). Leads ps other other) (sym e) h);
  tree = b.now;
  is_tree = slice_get-get_or (trees_in xs) node b.now (rw length-map l) ∙ ap Some (module_at xs node b b.now l is);
  back = subst (λ (o : Option Pos). IsFirstBack (trees_in xs) node (imports_of b.now) o) so found;
}

pub cycle_none : (xs : List (Bor Module)) (pairs : List (List ℕ)) (node : ℕ) (b : Bor Module) (place : Option Pos)
    → pairs ≡ links (trees_in xs) → node < length xs → b ≡ get_or xs node b → Leads pairs node node
    → IsFirstBack (trees_in xs) node (imports_of b.now) place → place ≡ None → ⊥
cycle_none xs pairs node b place e l is on found so =
    none_back xs node b l is (subst (λ (o : Option Pos). IsFirstBack (trees_in xs) node (imports_of b.now) o) so found)
    (subst (λ (ps : List (List ℕ)). Leads ps node node) e on)

pub no_cycles : (ms : List Module) (pairs : List (List ℕ)) → pairs ≡ links ms
    → ((k : ℕ) → k < length pairs → Leads pairs k k → ⊥) → (k : ℕ) → Leads (links ms) k k → ⊥
no_cycles ms pairs e none k h =
    let on : Leads pairs k k = subst (λ (ps : List (List ℕ)). Leads ps k k) (sym e) h in
    elim (cases_lt k (length pairs)) [
      | inl l ↦ none k l on
      | inr g ↦
          (let s = first_step pairs k k on in false≢true
          (ap (λ (ts : List ℕ). has ts s.0) (sym (get_or_past pairs k [] g)) ∙ s.1))
    ]

pub none_found : (ms : List Module) (pairs : List (List ℕ)) (found : Option ℕ) → pairs ≡ links ms
    → MatchOption found ((k : ℕ) → k < length pairs → Leads pairs k k → ⊥)
    (λ node. (node < length pairs) × Leads pairs node node × ((k : ℕ) → k < node → Leads pairs k k → ⊥)) → found ≡ None
    → (k : ℕ) → Leads (links ms) k k → ⊥
none_found ms pairs None e h so = no_cycles ms pairs e h
none_found ms pairs (Some k) e h so = cc
