-- Files of which nothing is reported have a program module.
use Rattle.std.proofs.Common.{◌≡◌, ◌<◌, arith, ℕ, not, cond, ◌==◌, List, [], ◌∷◌, ◌++◌, length, map, fold, refl, sym, ap, subst, ◌∙◌, append_assoc, Option, Some, None}
use Rattle.std.specs.Option.{is_some}
use Rattle.std.proofs.lemmas.List.Sums.{fold-append}
use Rattle.m2_tree.specs.declared.decl.Module.{Module}
use Rattle.m2_tree.specs.declared.pos.Pos.{Pos}
use Rattle.m2_rule.specs.declared.breach.Breach.{Breach}
use Rattle.m2_graph.specs.Imports.{first_that, imports_of, is_program, walk_of, walks}
use Rattle.m2_graph.specs.Files.{File, AreInOrder, trees}
use Rattle.m2_graph.specs.declared.sources.Source.{Source}
use Rattle.m2_graph.specs.declared.error.GraphError.{GraphError}
use Rattle.m2_graph.specs.declared.error.GraphError.TheVariants.{Refused, NoMemory}
use Rattle.m2_graph.specs.Sources.{file_of}
use Rattle.m2_graph.specs.Graph.{IsGraphOf, IsGraph, IsRefusalOf, IsRefusal}
use Rattle.m2_tree.specs.declared.refusal.Refusal.{Refusal}
use Rattle.std.specs.Prelude.{Result, Ok, Err, IfOk, IfErr}
use Rattle.std.proofs.lemmas.List.{length-map}
use Rattle.m2_rule.specs.declared.rule.Rule.TheVariants as rule
use Rattle.m2_graph.proofs.Importing.{first_within}
use Rattle.m2_graph.specs.Refused.{breach_where, first_place, least_with, least_of, import_breaches, is_repeated, is_second_program, is_without_program, is_lone, max_files, breaches_of}
use Rattle.m2_rule.specs.Breaches.{breach, is_less}
use Rattle.m2_graph.specs.Reported.{Reported, report_of, reported_at, cycle_breaches, refused_from, refused_of, IsReported}

stays_some : (f : Breach) (fs : List Breach) → fold least_with (Some f) fs ≡ None → ⊥
stays_some f [] e = cc
stays_some f (g ∷ gs) e = stays_some (cond (is_less g f) g f) gs e

some_with : (o : Option Breach) (f : Breach) (fs : List Breach) → fold least_with o (f ∷ fs) ≡ None → ⊥
some_with None f fs e = stays_some f fs e
some_with (Some g) f fs e = stays_some (cond (is_less f g) f g) fs e

pub never_none : (xs : List Breach) (f : Breach) (ys : List Breach) → least_of (xs ++ f ∷ ys) ≡ None → ⊥
never_none xs f ys e = some_with (fold least_with None xs) f ys (sym (fold-append least_with None xs (f ∷ ys)) ∙ e)

pub nothing_reported : (name : List ℕ) (o : Option Breach) (rest : List Reported) → reported_at name o ++ rest ≡ []
    → o ≡ None
nothing_reported name None rest e = refl
nothing_reported name (Some f) rest e = cc

without_program : (ms : List Module) (given : ℕ) (m : Module) (cycle : List Breach) → first_that is_program ms ≡ None
    → least_of (breaches_of ms [] given m ++ cycle) ≡ None → ⊥
without_program ms given m cycle none e =
    let a = import_breaches ms m (imports_of m) in
    let b = breach_where (is_repeated [] m) m.name.pos rule.SecondFile in
    let c = breach_where (is_second_program [] m) m.name.pos rule.ProgramCount in
    let d = breach_where (is_lone ms m) m.name.pos rule.LonelyModule in
    let f = breach_where (given == max_files) first_place rule.FileCount in
    let w : breach_where (is_without_program ms []) first_place rule.ProgramCount ≡ breach first_place rule.ProgramCount
    ∷ [] = ap (λ o. breach_where (not (is_some o)) first_place rule.ProgramCount) none in
    let is : breaches_of ms [] given m ++ cycle ≡ (a ++ b ++ c) ++ breach first_place rule.ProgramCount
    ∷ (d ++ f ++ cycle) = ap (λ (x : List Breach). (a ++ b ++ c ++ x ++ d ++ f) ++ cycle) w
    ∙ regroup a b c d f cycle in
    never_none (a ++ b ++ c) (breach first_place rule.ProgramCount) (d ++ f ++ cycle) (ap least_of (sym is) ∙ e)
  where
    regroup : (a b c d f cycle : List Breach)
        → (a ++ b ++ c ++ (breach first_place rule.ProgramCount ∷ []) ++ d ++ f) ++ cycle ≡ (a ++ b ++ c)
        ++ breach first_place rule.ProgramCount ∷ (d ++ f ++ cycle)
    regroup a b c d f cycle = simp append_assoc

refused_without : (fs : List File) (cycle : Option (ℕ × Pos)) → first_that is_program (trees fs) ≡ None
    → refused_of fs cycle ≡ [] → ⊥
refused_without [] cycle none e = cc
refused_without (f ∷ fs) cycle none e = without_program (trees (f ∷ fs)) f.given f.tree (cycle_breaches cycle 0) none
    (nothing_reported f.name _ (refused_from (trees (f ∷ fs)) cycle (f.tree ∷ []) fs) e)

pub reported_without : (fs : List File) (all : List Reported) → IsReported fs all
    → first_that is_program (trees fs) ≡ None → all ≡ [] → ⊥
reported_without fs all h none e = refused_without fs h.0 none (sym h.2 ∙ e)

pub some_reported : (rs : List Refusal) → (rs ≡ [] → ⊥) → map report_of rs ≡ [] → ⊥
some_reported [] n e = n refl
some_reported (r ∷ rs) n e = cc

pub starts_within : (ms : List Module) (walked borrowed : List (List ℕ)) (first : ℕ)
    → first_that is_program ms ≡ Some first → walked ≡ walks ms → borrowed ≡ walked → first < length borrowed
starts_within ms walked borrowed first e1 e2 e3 =
    omega (arith, first_within is_program ms first e1, ap length (e3 ∙ e2), length-map ms (walk_of ms))

-- ---- files as they are given

pub ok_map : {T E : Type 0} (P Q : T → Type 0) (r : Result T E) → ((x : T) → P x → Q x) → IfOk r P → IfOk r Q
ok_map P Q (Ok x) f h = f x h
ok_map P Q (Err e) f h = tt

pub err_map : {T E : Type 0} (P Q : E → Type 0) (r : Result T E) → ((e : E) → P e → Q e) → IfErr r P → IfErr r Q
err_map P Q (Ok x) f h = tt
err_map P Q (Err e) f h = f e h

pub graph_given : (given : List File) (xs borrowed : List Source) (files : List ℕ) (jobs : List (List ℕ))
    (starts : List ℕ) → AreInOrder given (map file_of xs) → borrowed ≡ xs
    → IsGraphOf (map file_of borrowed) files jobs starts → IsGraph given files jobs starts
graph_given given xs borrowed files jobs starts o e h =
    (map file_of borrowed, subst (λ (ys : List Source). AreInOrder given (map file_of ys)) (sym e) o, h)

pub refusal_given : (given : List File) (xs borrowed : List Source) → AreInOrder given (map file_of xs) → borrowed ≡ xs
    → (e : GraphError) → IsRefusalOf (map file_of borrowed) e → IsRefusal given e
refusal_given given xs borrowed o e (Refused rs) h =
    (map file_of borrowed, subst (λ (ys : List Source). AreInOrder given (map file_of ys)) (sym e) o, h)
refusal_given given xs borrowed o e NoMemory h = tt
