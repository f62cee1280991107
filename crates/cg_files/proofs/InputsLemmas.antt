-- The files of all kinds.
use Rattle.std.proofs.Common.{◌≡◌, ℕ, List, ◌++◌, Option, ap, ap₂, subst₂}
use Rattle.cg_io.specs.Shelf.{Files}
use Rattle.cg_words.specs.Words.{NamedFile, Request}
use Rattle.cg_files.specs.Said.{Said}
use Rattle.cg_files.specs.Reading.{File, EndsWith, AreRead}
use Rattle.cg_files.specs.Inputs.{names_of, curve_files, model_files, session_files, files_of}
use Rattle.cg_files.specs.declared.file.FileFault.{FileFault}
use Rattle.cg_files.proofs.EndLemmas.{read_more, ends_more, ends_before}

module _ (told : Option Files) (request : Request) (curves models : List NamedFile) (sessions : List (List ℕ))
    (same_curves : curves ≡ request.curves) (same_models : models ≡ request.models) (same_sessions : sessions ≡ request.sessions) where
  same_files : curve_files curves ++ model_files models ++ session_files sessions ≡ files_of request
  same_files = ap₂ (λ (a b : List File). a ++ b) (ap₂ (λ a b. curve_files a ++ model_files b) same_curves same_models) (ap session_files same_sessions)

  same_names : names_of curves ≡ names_of request.curves
  same_names = ap names_of same_curves

  -- the reading ends at a curve
  pub ends_at_curves : (now : Option Files) (fault : FileFault) → EndsWith (names_of curves) told now (curve_files curves) fault → EndsWith (names_of request.curves) told now (files_of request) fault
  ends_at_curves now fault end =
      subst₂ (λ ns fs. EndsWith ns told now fs fault) same_names same_files
      (ends_before (names_of curves) told now (curve_files curves ++ model_files models) (session_files sessions) fault (ends_before (names_of curves) told now (curve_files curves) (model_files models) fault end))

  module _ (now : Option Files) (a : List Said) (read_curves : AreRead (names_of curves) told now (curve_files curves) a) where
    -- at a model
    pub ends_at_models : (last : Option Files) (fault : FileFault) → EndsWith (names_of curves) now last (model_files models) fault → EndsWith (names_of request.curves) told last (files_of request) fault
    ends_at_models last fault end =
        subst₂ (λ ns fs. EndsWith ns told last fs fault) same_names same_files
        (ends_before (names_of curves) told last (curve_files curves ++ model_files models) (session_files sessions) fault
        (ends_more (names_of curves) told now last (curve_files curves) (model_files models) a read_curves fault end))

    module _ (next : Option Files) (b : List Said) (read_models : AreRead (names_of curves) now next (model_files models) b) where
      -- at a session script
      pub ends_at_sessions : (last : Option Files) (fault : FileFault) → EndsWith (names_of curves) next last (session_files sessions) fault → EndsWith (names_of request.curves) told last (files_of request) fault
      ends_at_sessions last fault end =
          subst₂ (λ ns fs. EndsWith ns told last fs fault) same_names same_files
          (ends_more (names_of curves) told next last (curve_files curves ++ model_files models) (session_files sessions) (a ++ b)
          (read_more (names_of curves) told now next (curve_files curves) (model_files models) a read_curves b read_models) fault end)

      -- or all files are read
      pub all_read : (last : Option Files) (c : List Said) → AreRead (names_of curves) next last (session_files sessions) c → AreRead (names_of request.curves) told last (files_of request) (a ++ b ++ c)
      all_read last c read_sessions =
          subst₂ (λ ns fs. AreRead ns told last fs (a ++ b ++ c)) same_names same_files
          (read_more (names_of curves) told next last (curve_files curves ++ model_files models) (session_files sessions) (a ++ b)
          (read_more (names_of curves) told now next (curve_files curves) (model_files models) a read_curves b read_models) c read_sessions)
