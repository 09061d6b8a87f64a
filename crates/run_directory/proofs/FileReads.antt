-- What was read, one read behind another.
use Rattle.std.proofs.Common.{◌≡◌, List, [], ◌∷◌, ◌++◌, Option, Some, None, refl, sym, ap, ◌∙◌, append_assoc}
use Rattle.std.specs.List.{AllByRecursion}
use Rattle.std.proofs.lemmas.List.{append-nil}
use Rattle.run_directory.specs.Directory.{Files, Stays, FileRead, Read, MayBe, HasRead, with_reads}

none_more : (notes : Option (List FileRead)) → with_reads notes [] ≡ notes
none_more None = refl
none_more (Some rs) = ap (λ (x : List FileRead). Some x) (append-nil rs)

more_behind : (notes : Option (List FileRead)) (a b : List FileRead)
    → with_reads (with_reads notes a) b ≡ with_reads notes (a ++ b)
more_behind None a b = refl
more_behind (Some rs) a b = ap (λ (x : List FileRead). Some x) (append_assoc rs a b)

one_earlier : (now later : Files) → Stays now later → (r : FileRead) → MayBe later r → MayBe now r
one_earlier now later stays (Read name bytes) h = stays name bytes h

-- what may be later may be now, behind what may be now
both_may_be : (now later : Files) → Stays now later → (a b : List FileRead) → AllByRecursion (MayBe now) a
    → AllByRecursion (MayBe later) b → AllByRecursion (MayBe now) (a ++ b)
both_may_be now later stays [] [] h k = h
both_may_be now later stays [] (r ∷ b) h k = (one_earlier now later stays r k.0, both_may_be now later stays [] b h k.1)
both_may_be now later stays (r ∷ a) b h k = (h.0, both_may_be now later stays a b h.1 k)

module _ {D : Type 0} (noted : D → Option (List FileRead)) (gives : D → Files) where
  pub none_read : (d : D) → HasRead noted gives [] d d
  none_read d = record { is_noted = sym (none_more (noted d)); may_be = tt; stays = λ name bytes h. h }

  pub more_read : (a b : List FileRead) (before between after : D) → HasRead noted gives a before between
      → HasRead noted gives b between after → HasRead noted gives (a ++ b) before after
  more_read a b before between after first next = record {
    is_noted = next.is_noted ∙ ap (λ (n : Option (List FileRead)). with_reads n b) first.is_noted
        ∙ more_behind (noted before) a b;
    may_be = both_may_be (gives before) (gives between) first.stays a b first.may_be next.may_be;
    stays = λ name bytes h. first.stays name bytes (next.stays name bytes h);
  }
