-- Reads of one list of files, and of another behind it.
use Rattle.std.proofs.Common.{◌≡◌, ℕ, ◌+◌, List, [], ◌∷◌, ◌++◌, length, Option, None, refl, sym, ap, subst, ◌∙◌, arith, append_assoc, length-append, option_map}
use Rattle.cg_meaning.specs.Tree.{Name}
use Rattle.cg_io.specs.Shelf.{Files, after_read}
use Rattle.cg_report.specs.declared.file.FileCause.{FileCause}
use Rattle.cg_files.specs.Shelf.{later, Reads, Finds, Misses}
use Rattle.cg_files.specs.Said.{Said, HasCause}
use Rattle.cg_files.specs.Reading.{File, Accepts, AcceptsAll, ComesTo, EndsWith, AreRead}
use Rattle.cg_files.specs.declared.file.FileFault.{FileFault}
use Rattle.cg_files.specs.declared.file.FileFault.TheVariants.{Failed, Refused, NoMemory}
use Rattle.cg_files.proofs.ShelfLemmas.{later-add, no_read, Reads-add, carry, misses_none, finds_none}

-- where curves of these names are given
module _ (curves : List Name) where
  forget : (told : Option Files) (files : List File) (said : List Said) → AcceptsAll curves told files said → AcceptsAll curves None files said
  forget told [] [] accepted = tt
  forget told [] (s ∷ said) accepted = absurd accepted
  forget told (f ∷ files) [] accepted = absurd accepted
  forget told (f ∷ files) (s ∷ said) (here, rest) = ((here.0, tt, here.2, here.3), forget (option_map after_read told) files said rest)

  AcceptsAll-append : (told : Option Files) (xs ys : List File) (s t : List Said) → AcceptsAll curves told xs s → AcceptsAll curves (later (length xs) told) ys t → AcceptsAll curves told (xs ++ ys) (s ++ t)
  AcceptsAll-append told [] ys [] t first second = second
  AcceptsAll-append told [] ys (s ∷ ss) t first second = absurd first
  AcceptsAll-append told (x ∷ xs) ys [] t first second = absurd first
  AcceptsAll-append told (x ∷ xs) ys (s ∷ ss) t first second = (first.0, AcceptsAll-append (option_map after_read told) xs ys ss t first.1 second)

  -- a file that is accepted
  pub read_one : (told now : Option Files) (file : File) (said : Said) → Accepts curves told file said → Reads 1 told now → AreRead curves told now (file ∷ []) (said ∷ [])
  read_one told now file said accepts reads = record { accepted = (accepts, tt); reads = reads }

  -- a file that is refused
  pub refuse_one : (told now : Option Files) (file : File) (bytes : List ℕ) (line : ℕ) (cause : FileCause) → Finds told file.name bytes → HasCause curves file.ref.kind bytes line cause → Reads 1 told now →
      EndsWith curves told now (file ∷ []) (Refused file.ref line cause)
  refuse_one told now file bytes line cause found refused reads = record {
    refusal = record {
      name = file.name;
      bytes = bytes;
      earlier = record { before = []; behind = []; said = []; parted = refl; accepted = tt };
      found = found;
      refused = refused;
    };
    reads = reads;
  }

  -- a file whose read fails
  pub miss_one : (told now : Option Files) (file : File) → Misses told file.name → Reads 1 told now → EndsWith curves told now (file ∷ []) (Failed file.ref)
  miss_one told now file missed reads = record {
    cause = record {
      name = file.name;
      earlier = record { before = []; behind = []; said = []; parted = refl; accepted = tt };
      missed = missed;
    };
    reads = reads;
  }

  -- no file
  pub read_none : (told : Option Files) → AreRead curves told told [] []
  read_none told = record { accepted = tt; reads = no_read told }

  module _ (told now last : Option Files) (xs ys : List File) (s : List Said) (read : AreRead curves told now xs s) where
    -- more files behind them
    pub read_more : (t : List Said) → AreRead curves now last ys t → AreRead curves told last (xs ++ ys) (s ++ t)
    read_more t more = record {
      accepted = AcceptsAll-append told xs ys s t read.accepted (carry (λ o. AcceptsAll curves o ys t) (length xs) told now (forget now ys t) read.reads more.accepted);
      reads = subst (λ n. Reads n told last) (sym (length-append xs ys)) (Reads-add (length xs) (length ys) told now last read.reads more.reads);
    }

    abbrev comes_to_more : (file : File) → ComesTo curves now ys file → ComesTo curves told (xs ++ ys) file
    comes_to_more file earlier = record {
      before = xs ++ earlier.before;
      behind = earlier.behind;
      said = s ++ earlier.said;
      parted = ap (λ fs. xs ++ fs) earlier.parted ∙ sym (append_assoc xs earlier.before (file ∷ earlier.behind));
      accepted = AcceptsAll-append told xs earlier.before s earlier.said read.accepted
          (carry (λ o. AcceptsAll curves o earlier.before earlier.said) (length xs) told now (forget now earlier.before earlier.said) read.reads earlier.accepted);
    }

    later_more : (before : List File) → later (length before) (later (length xs) told) ≡ later (length (xs ++ before)) told
    later_more before = sym (later-add (length xs) (length before) told) ∙ ap (λ n. later n told) (sym (length-append xs before))

    reads_more : (before : List File) → Reads (length before + 1) now last → Reads (length (xs ++ before) + 1) told last
    reads_more before more =
        let e : length xs + (length before + 1) ≡ length (xs ++ before) + 1 = omega (arith, length-append xs before) in
        subst (λ n. Reads n told last) e (Reads-add (length xs) (length before + 1) told now last read.reads more)

    -- an end behind them
    pub ends_more : (fault : FileFault) → EndsWith curves now last ys fault → EndsWith curves told last (xs ++ ys) fault
    ends_more (Failed ref) end =
        let cause = end.cause in let before = cause.earlier.before in
        record {
          cause = record {
            name = cause.name;
            earlier = comes_to_more (record { ref = ref; name = cause.name }) cause.earlier;
            missed = subst (λ o. Misses o cause.name) (later_more before)
                (carry (λ o. Misses (later (length before) o) cause.name) (length xs) told now (λ _. misses_none (length before) cause.name) read.reads cause.missed);
          };
          reads = reads_more before end.reads;
        }
    ends_more (Refused ref line why) end =
        let cause = end.refusal in let before = cause.earlier.before in
        record {
          refusal = record {
            name = cause.name;
            bytes = cause.bytes;
            earlier = comes_to_more (record { ref = ref; name = cause.name }) cause.earlier;
            found = subst (λ o. Finds o cause.name cause.bytes) (later_more before)
                (carry (λ o. Finds (later (length before) o) cause.name cause.bytes) (length xs) told now (λ _. finds_none (length before) cause.name cause.bytes) read.reads cause.found);
            refused = cause.refused;
          };
          reads = reads_more before end.reads;
        }
    ends_more NoMemory end = tt

  module _ (told now : Option Files) (xs ys : List File) where
    abbrev comes_to_before : (file : File) → ComesTo curves told xs file → ComesTo curves told (xs ++ ys) file
    comes_to_before file earlier = record {
      before = earlier.before;
      behind = earlier.behind ++ ys;
      said = earlier.said;
      parted = ap (λ fs. fs ++ ys) earlier.parted ∙ append_assoc earlier.before (file ∷ earlier.behind) ys;
      accepted = earlier.accepted;
    }

    -- an end before further files
    pub ends_before : (fault : FileFault) → EndsWith curves told now xs fault → EndsWith curves told now (xs ++ ys) fault
    ends_before (Failed ref) end = record {
      cause = record {
        name = end.cause.name;
        earlier = comes_to_before (record { ref = ref; name = end.cause.name }) end.cause.earlier;
        missed = end.cause.missed;
      };
      reads = end.reads;
    }
    ends_before (Refused ref line why) end = record {
      refusal = record {
        name = end.refusal.name;
        bytes = end.refusal.bytes;
        earlier = comes_to_before (record { ref = ref; name = end.refusal.name }) end.refusal.earlier;
        found = end.refusal.found;
        refused = end.refusal.refused;
      };
      reads = end.reads;
    }
    ends_before NoMemory end = tt
