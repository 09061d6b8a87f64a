-- When nothing is reported of files.
use Rattle.std.proofs.Common.{◌≡◌, ℕ, suc, Bool, false, cond, ◌==◌, List, [], ◌∷◌, ◌++◌, map, take, refl, sym, ap, ap₂, subst, ◌∙◌, append_assoc, Some, None}
use Rattle.std.specs.Prelude.{slice_get}
use Rattle.std.specs.List.{filter}
use Rattle.std.proofs.lemmas.List.{append-nil}
use Rattle.std.proofs.lemmas.Option.{none-some}
use Rattle.m2_rule.specs.declared.rule.Rule.TheVariants as rule
use Rattle.m2_rule.specs.declared.rule.Rule.{Rule}
use Rattle.m2_rule.specs.declared.breach.Breach.{Breach}
use Rattle.m2_rule.specs.Breaches.{breach}
use Rattle.m2_tree.specs.declared.name.Ident.{Ident}
use Rattle.m2_tree.specs.declared.decl.Module.{Module}
use Rattle.m2_tree.specs.declared.pos.Pos.{Pos}
use Rattle.graph_walk.specs.Links.{Leads}
use Rattle.m2_graph.specs.Files.{File, trees}
use Rattle.m2_graph.specs.Imports.{imports_of, links}
use Rattle.m2_graph.specs.Refused.{breach_where, first_place, least_of, is_bad_import, import_breaches, is_repeated, is_second_program, is_without_program, is_lone, max_files, breaches_of}
use Rattle.m2_graph.specs.Reported.{Reported, reported_at, refused_from, IsReported}
use Rattle.law_graph.proofs.Lists.{Among, later_among}

-- no rule is broken by a module behind others
pub record Passes (modules before : List Module) (given : ℕ) (m : Module) : Type 0 where
  pub imports : (x : Ident) → Among (imports_of m) x → is_bad_import modules m x.name ≡ false
  pub first : is_repeated before m ≡ false
  pub single : is_second_program before m ≡ false
  pub program : is_without_program modules before ≡ false
  pub whole : is_lone modules m ≡ false
  pub counted : (given == max_files) ≡ false

filter_none : {X : Type 0} (p : X → Bool) (xs : List X) → ((x : X) → Among xs x → p x ≡ false) → filter p xs ≡ []
filter_none p [] h = refl
filter_none {X} p (x ∷ xs) h = ap (λ (b : Bool). cond b (x ∷ filter p xs) (filter p xs)) (h x (0, refl))
    ∙ filter_none p xs (λ y a. h y (later_among x xs y a))

where_not : (b : Bool) (pos : Pos) (n : Rule) → b ≡ false → breach_where b pos n ≡ []
where_not b pos n e = ap (λ (c : Bool). breach_where c pos n) e

both_none : (xs ys : List Breach) → xs ≡ [] → ys ≡ [] → xs ++ ys ≡ []
both_none xs ys e f = ap₂ (λ (us vs : List Breach). us ++ vs) e f

none_broken : (modules before : List Module) (given : ℕ) (m : Module) → Passes modules before given m
    → breaches_of modules before given m ≡ []
none_broken modules before given m p =
    let a = import_breaches modules m (imports_of m) in
    let b = breach_where (is_repeated before m) m.name.pos rule.SecondFile in
    let c = breach_where (is_second_program before m) m.name.pos rule.ProgramCount in
    let d = breach_where (is_without_program modules before) first_place rule.ProgramCount in
    let f = breach_where (is_lone modules m) m.name.pos rule.LonelyModule in
    let g = breach_where (given == max_files) first_place rule.FileCount in
    let imported : a ≡ [] = ap (map (λ (x : Ident). breach x.pos rule.MissingModule))
    (filter_none (λ (x : Ident). is_bad_import modules m x.name) (imports_of m) p.imports) in
    both_none (a ++ b ++ c ++ d ++ f) g
    (both_none (a ++ b ++ c ++ d) f
    (both_none (a ++ b ++ c) d
    (both_none (a ++ b) c
    (both_none a b imported (where_not (is_repeated before m) m.name.pos rule.SecondFile p.first))
    (where_not (is_second_program before m) m.name.pos rule.ProgramCount p.single))
    (where_not (is_without_program modules before) first_place rule.ProgramCount p.program))
    (where_not (is_lone modules m) m.name.pos rule.LonelyModule p.whole))
    (where_not (given == max_files) first_place rule.FileCount p.counted)

passed_from : (modules before : List Module) (fs : List File)
    → ((k : ℕ) (f : File) → slice_get fs k ≡ Some f → Passes modules (before ++ take k (trees fs)) f.given f.tree)
    → refused_from modules None before fs ≡ []
passed_from modules before [] h = refl
passed_from modules before (f ∷ fs) h =
    let here : Passes modules before f.given f.tree =
    subst (λ (ms : List Module). Passes modules ms f.given f.tree) (append-nil before) (h 0 f refl) in
    let more : refused_from modules None (before ++ f.tree ∷ []) fs ≡ [] =
    passed_from modules (before ++ f.tree ∷ []) fs
    (λ k g e. subst (λ (ms : List Module). Passes modules ms g.given g.tree)
    (sym (append_assoc before (f.tree ∷ []) (take k (trees fs)))) (h (suc k) g e)) in
    ap₂ (λ (bs : List Breach) (rest : List Reported). reported_at f.name (least_of (bs ++ [])) ++ rest)
    (none_broken modules before f.given f.tree here) more

-- Where there are files, none of them breaks a rule, and there is no cycle, nothing is reported.
pub nothing_refused : (fs : List File) (k : ℕ) (m : Module) → slice_get (trees fs) k ≡ Some m
    → ((node : ℕ) → Leads (links (trees fs)) node node → ⊥)
    → ((k : ℕ) (f : File) → slice_get fs k ≡ Some f → Passes (trees fs) (take k (trees fs)) f.given f.tree)
    → IsReported fs []
nothing_refused [] k m e none h = absurd (none-some m e)
nothing_refused (f ∷ fs) k m e none h = (None, none, sym (passed_from (trees (f ∷ fs)) [] (f ∷ fs) h))
