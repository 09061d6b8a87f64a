-- Files have one outcome.
use Rattle.std.proofs.Common.{◌≡◌, ◌≢◌, ℕ, List, [], ◌∷◌, ◌++◌, refl, sym, ap, ◌∙◌}
use Rattle.std.specs.String.{string_bytes}
use Rattle.m2_tree.specs.declared.decl.Module.{Module}
use Rattle.m2_tree.specs.declared.pos.Pos.{Pos}
use Rattle.build_jobs.specs.declared.file.SourceFile.{SourceFile}
use Rattle.build_jobs.specs.declared.reading.Read.{Read}
use Rattle.build_jobs.specs.declared.reading.Read.TheVariants.{Parsed, Refused}
use Rattle.build_jobs.specs.Reading.{AreRead, AreSame}
use Rattle.build_jobs.proofs.Once.{one_read}
use Rattle.build_results.specs.Reported.{reported_at}
use Rattle.build_results.specs.Texts.{refused_in, refused_of, tree_in, trees_of, each_two, AreTrees}

-- ---- texts

-- each is the same in both
abbrev AreAllSame : List Read → List Read → Type 0
AreAllSame [] [] = Unit {0}
AreAllSame (a ∷ rs) (b ∷ qs) = AreSame a b × AreAllSame rs qs
AreAllSame [] (b ∷ qs) = ⊥
AreAllSame (a ∷ rs) [] = ⊥

all_same : (files : List SourceFile) (rs qs : List Read) → AreRead files rs → AreRead files qs → AreAllSame rs qs
all_same [] [] [] h k = tt
all_same (f ∷ fs) (a ∷ rs) (b ∷ qs) h k = (one_read f.bytes.items a b h.0 k.0, all_same fs rs qs h.1 k.1)
all_same [] (a ∷ rs) qs h k = absurd h
all_same [] [] (b ∷ qs) h k = absurd k
all_same (f ∷ fs) [] qs h k = absurd h
all_same (f ∷ fs) (a ∷ rs) [] h k = absurd k

reported_place : (file : List ℕ) (p q : Pos) (n m : ℕ) → p ≡ q → n ≡ m
    → reported_at file p.line p.col n ≡ reported_at file q.line q.col m
reported_place file p q n m e i = ap (λ (x : Pos). reported_at file x.line x.col n) e
    ∙ ap (reported_at file q.line q.col) i

one_refused : (file : List ℕ) (a b : Read) → AreSame a b → refused_in file a ≡ refused_in file b
one_refused file (Parsed t) (Parsed u) h = refl
one_refused file (Parsed t) (Refused q m) h = absurd h
one_refused file (Refused p n) (Parsed u) h = absurd h
one_refused file (Refused p n) (Refused q m) h = ap (λ x. x ∷ []) (reported_place file p q n m h.0 h.1)

one_tree : (file : List ℕ) (a b : Read) → AreSame a b → tree_in file a ≡ tree_in file b
one_tree file (Parsed t) (Parsed u) h = ap (λ (x : Module). (file, x) ∷ []) h
one_tree file (Parsed t) (Refused q m) h = absurd h
one_tree file (Refused p n) (Parsed u) h = absurd h
one_tree file (Refused p n) (Refused q m) h = refl

each_same : {C : Type 0} (f : SourceFile → Read → List C)
    → ((file : SourceFile) (a b : Read) → AreSame a b → f file a ≡ f file b)
    → (files : List SourceFile) (rs qs : List Read) → AreAllSame rs qs → each_two f files rs ≡ each_two f files qs
each_same f same [] rs qs h = refl
each_same f same (x ∷ xs) [] [] h = refl
each_same f same (x ∷ xs) (a ∷ rs) (b ∷ qs) h = ap (λ ys. ys ++ each_two f xs rs) (same x a b h.0)
    ∙ ap (λ ys. f x b ++ ys) (each_same f same xs rs qs h.1)
each_same f same (x ∷ xs) [] (b ∷ qs) h = absurd h
each_same f same (x ∷ xs) (a ∷ rs) [] h = absurd h

pub same_refused : (files : List SourceFile) (rs qs : List Read) → AreRead files rs → AreRead files qs
    → refused_of files rs ≡ refused_of files qs
same_refused files rs qs h k = each_same (λ (f : SourceFile) (r : Read). refused_in (string_bytes f.name) r)
    (λ f a b. one_refused (string_bytes f.name) a b) files rs qs (all_same files rs qs h k)

same_trees : (files : List SourceFile) (rs qs : List Read) → AreRead files rs → AreRead files qs
    → trees_of files rs ≡ trees_of files qs
same_trees files rs qs h k = each_same (λ (f : SourceFile) (r : Read). tree_in (string_bytes f.name) r)
    (λ f a b. one_tree (string_bytes f.name) a b) files rs qs (all_same files rs qs h k)

pub one_trees : (files : List SourceFile) (xs ys : List (List ℕ × Module)) → AreTrees files xs → AreTrees files ys
    → xs ≡ ys
one_trees files xs ys h k = h.all ∙ same_trees files h.reads k.reads h.are_read k.are_read ∙ sym k.all

pub trees_or_refused : (files : List SourceFile) (xs : List (List ℕ × Module)) (reads : List Read) → AreTrees files xs
    → AreRead files reads → refused_of files reads ≢ [] → ⊥
trees_or_refused files xs reads h k some = some (same_refused files reads h.reads k h.are_read ∙ h.fine)
