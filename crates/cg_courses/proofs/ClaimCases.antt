-- Claims, computed: what the seats are told, and what sessions of small scripts do and tell over one cache.
use Rattle.std.proofs.Common.{◌≡◌, ℕ, false, List, [], ◌∷◌, ◌++◌, map, refl, pos, Some, None, arith}
use Rattle.std.specs.Prelude.{codes}
use Rattle.cg_meaning.specs.Tree.{Dating, Leaf, none, more, Normal}
use Rattle.cg_meaning.specs.Scene.{Scene, scene_on}
use Rattle.cg_cache.specs.Cached.{Hit, Mine, Busy, NoRoom}
use Rattle.cg_cache.specs.Deeds as deeds
use Rattle.cg_cache.specs.Deeds.{Deed, Claim, Publish, GiveBack, Reply, Claimed}
use Rattle.cg_sharing.specs.Edit.{Set, result_of}
use Rattle.cg_sharing.specs.Command as command
use Rattle.cg_sharing.specs.Command.{Command, Line, Grid, Open, Change}
use Rattle.cg_sharing.specs.Versions.{StartModel, start_of}
use Rattle.cg_sharing.specs.Journal as journal
use Rattle.cg_sharing.specs.Journal.{Shared, shared_of, shared_by, answer_of, Act, Do, Told, Entry}
use Rattle.cg_courses.specs.Pieces as piece
use Rattle.cg_courses.specs.Pieces.{Print, Counts, Piece, Begun, At, On}
use Rattle.cg_courses.specs.Course.{Place, stopped_at, IsStopped}
use Rattle.cg_courses.specs.Interleaving.{World, interleaving, turns_taken, begun}
use Rattle.cg_courses.proofs.CourseCases.{lines_from, main_model, sequence_of, date, model_of, uncalibrated}

-- what the seats are told of these deeds, one after another
abbrev answers : Shared → List (ℕ × Deed) → List journal.Answer
answers shared [] = []
answers shared (ask ∷ asks) =
    let answer = answer_of shared (Do ask.1) in
    answer ∷ answers (shared_by shared (record { seat = ask.0; act = Do ask.1; answer = answer })) asks

-- Seat 1 has claimed A and seat 2 B, so there is no room for C. Once A is ready it makes room, and is gone. Once B is
-- given back there is room for A again. What is published is ready for the other seat.
two_seats : answers (shared_of [] 2)
    ((1, Claim (codes "A")) ∷ (2, Claim (codes "A")) ∷ (2, Claim (codes "B")) ∷ (1, Claim (codes "C"))
    ∷ (1, Publish (codes "A")) ∷ (2, Claim (codes "C")) ∷ (1, Claim (codes "A")) ∷ (2, GiveBack (codes "B"))
    ∷ (1, Claim (codes "A")) ∷ (2, Publish (codes "C")) ∷ (1, Claim (codes "C")) ∷ [])
    ≡ Told (Claimed Mine) ∷ Told (Claimed (Busy 1)) ∷ Told (Claimed Mine) ∷ Told (Claimed NoRoom)
    ∷ Told deeds.Published ∷ Told (Claimed Mine) ∷ Told (Claimed NoRoom) ∷ Told deeds.Returned
    ∷ Told (Claimed Mine) ∷ Told deeds.Published ∷ Told (Claimed Hit) ∷ []
two_seats = refl

abbrev fifty : Dating
fifty = Normal (pos 1999) (pos 5000)

-- Sequence("s"){Date("A"); <"B" with this dating>}; where the marginal of "A" takes one message, the row of "B"
abbrev model_with : Dating → StartModel
model_with dating = model_of (codes "main") None (sequence_of (more (date (codes "A")) (more (Leaf (codes "B") dating) none)))

-- what sessions of these scripts tell, with room for so many messages
abbrev told_in : ℕ → List (List Command) → List ℕ → List (List Piece)
told_in capacity scripts turns =
    map (λ place. place.written) (interleaving uncalibrated (model_with fifty ∷ []) capacity (map (λ commands. lines_from 1 commands) scripts) turns).places

abbrev three_years : Scene
three_years = scene_on (record { oldest = pos 2001; cells = 3 })

abbrev of_a : ℕ → Dating → Piece
of_a version dating =
    piece.Marginal (record { name = codes "A"; version = version; chronology = (model_with dating).chronology; scene = three_years; event = 0 })

abbrev changed : Dating
changed = Normal (pos 2000) (pos 5000)

-- "A" is printed twice, and once more when another date has changed
abbrev again_script : List Command
again_script =
    Open (codes "main") ∷ Grid (pos 2001) (pos 1999) ∷ command.Print (codes "A") ∷ command.Print (codes "A") ∷ command.Work
    ∷ Change (Set (codes "B") changed) ∷ command.Print (codes "A") ∷ command.Work ∷ []

abbrev again_told : Counts → Counts → List (List Piece)
again_told first second =
    (Begun 1 ∷ At 0 ∷ On three_years.grid ∷ of_a 0 fifty ∷ of_a 0 fifty ∷ piece.Work first ∷ piece.Made 1 ∷ of_a 1 changed ∷ piece.Work second ∷ []) ∷ []

-- One message has room: the marginal is claimed, and the row isn't.
one_message : told_in 1 (again_script ∷ []) []
    ≡ again_told (record { claims = 3; hits = 1; mine = 1; busy = 0; no_room = 1; published = 1 })
    (record { claims = 5; hits = 1; mine = 2; busy = 0; no_room = 2; published = 2 })
unfolding result_of
one_message = refl

-- With room for all each is made once.
all_messages : told_in 64 (again_script ∷ []) []
    ≡ again_told (record { claims = 3; hits = 1; mine = 2; busy = 0; no_room = 0; published = 2 })
    (record { claims = 5; hits = 1; mine = 4; busy = 0; no_room = 0; published = 4 })
unfolding result_of
all_messages = refl

-- Without room each is made each time.
no_messages : told_in 0 (again_script ∷ []) []
    ≡ again_told (record { claims = 4; hits = 0; mine = 0; busy = 0; no_room = 4; published = 0 })
    (record { claims = 6; hits = 0; mine = 0; busy = 0; no_room = 6; published = 0 })
unfolding result_of
no_messages = refl

abbrev print_script : List Command
print_script = Open (codes "main") ∷ Grid (pos 2001) (pos 1999) ∷ command.Print (codes "A") ∷ command.Work ∷ []

abbrev print_told : ℕ → Counts → List Piece
print_told session counts = Begun session ∷ At 0 ∷ On three_years.grid ∷ of_a 0 fifty ∷ piece.Work counts ∷ []

-- Two sessions print one event in turns: the second makes what the first has claimed and not yet published.
shared_messages : told_in 64 (print_script ∷ print_script ∷ []) (1 ∷ 2 ∷ 1 ∷ 2 ∷ 1 ∷ 2 ∷ [])
    ≡ print_told 1 (record { claims = 2; hits = 0; mine = 2; busy = 0; no_room = 0; published = 2 })
    ∷ print_told 2 (record { claims = 2; hits = 0; mine = 0; busy = 2; no_room = 0; published = 0 }) ∷ []
shared_messages = refl

-- One behind the other: the second is told of the marginal that the first published, and claims no row.
taken_message : told_in 64 (print_script ∷ print_script ∷ []) []
    ≡ print_told 1 (record { claims = 2; hits = 0; mine = 2; busy = 0; no_room = 0; published = 2 })
    ∷ print_told 2 (record { claims = 1; hits = 1; mine = 0; busy = 0; no_room = 0; published = 0 }) ∷ []
taken_message = refl

abbrev entry : ℕ → Act → journal.Answer → Entry
entry seat act answer = record { seat = seat; act = act; answer = answer }

abbrev opened : ℕ → Entry
opened seat = entry seat (journal.Head (codes "main")) (journal.At 0)

abbrev does : ℕ → Deed → Reply → Entry
does seat deed reply = entry seat (Do deed) (Told reply)

-- the row of "B" on 2001 to 1999 cal BP, and the marginal of "A"
abbrev row_code : List ℕ
row_code = 82 ∷ 11 ∷ 185 ∷ 11 ∷ 183 ∷ 0 ∷ 78 ∷ 11 ∷ 183 ∷ 0 ∷ 0 ∷ 19 ∷ 136 ∷ []

abbrev marginal_code : List ℕ
marginal_code = 77 ∷ 11 ∷ 185 ∷ 11 ∷ 183 ∷ 0 ∷ 80 ∷ 0 ∷ 1 ∷ 83 ∷ 0 ∷ 2 ∷ 68 ∷ 78 ∷ 11 ∷ 183 ∷ 0 ∷ 0 ∷ 19 ∷ 136 ∷ 0 ∷ 0 ∷ []

abbrev print_lines : List Line
print_lines = lines_from 1 print_script

-- The marginal is claimed before its row, and published behind it.
one_journal : (interleaving uncalibrated (model_with fifty ∷ []) 64 (print_lines ∷ []) []).journal
    ≡ opened 1 ∷ does 1 (Claim marginal_code) (Claimed Mine) ∷ does 1 (Claim row_code) (Claimed Mine)
    ∷ does 1 (Publish row_code) deeds.Published ∷ does 1 (Publish marginal_code) deeds.Published ∷ []
one_journal = refl

abbrev stopped_first : List Place → List Place
stopped_first [] = []
stopped_first (place ∷ places) = stopped_at place ∷ places

-- want of memory stops the session after these turns, and it takes these others
abbrev stopped_after : List ℕ → List ℕ → World
stopped_after before after =
    let world = turns_taken uncalibrated before (begun uncalibrated (model_with fifty ∷ []) 64 (print_lines ∷ [])) in
    turns_taken uncalibrated after (record world { places = stopped_first world.places })

-- With two claims it gives both back, the newest first, and does no more.
both_returned : (stopped_after (1 ∷ 1 ∷ 1 ∷ []) (1 ∷ 1 ∷ 1 ∷ 1 ∷ [])).journal
    ≡ opened 1 ∷ does 1 (Claim marginal_code) (Claimed Mine) ∷ does 1 (Claim row_code) (Claimed Mine)
    ∷ does 1 (GiveBack row_code) deeds.Returned ∷ does 1 (GiveBack marginal_code) deeds.Returned ∷ []
both_returned = refl

none_claimed : (stopped_after (1 ∷ 1 ∷ 1 ∷ []) (1 ∷ 1 ∷ [])).shared.cached.claimed ≡ []
none_claimed = refl

-- It tells no more either.
stopped_told : map (λ place. place.written) (stopped_after (1 ∷ 1 ∷ 1 ∷ []) (1 ∷ 1 ∷ [])).places ≡ (Begun 1 ∷ At 0 ∷ On three_years.grid ∷ []) ∷ []
stopped_told = refl

-- "A" of a model without dates has no message but its marginal
abbrev plain_lines : List Line
plain_lines = lines_from 1 (Open (codes "main") ∷ Grid (pos 2001) (pos 1999) ∷ command.Print (codes "A") ∷ [])

abbrev plain_code : List ℕ
plain_code = 77 ∷ 11 ∷ 185 ∷ 11 ∷ 183 ∷ 0 ∷ 80 ∷ 0 ∷ 1 ∷ 83 ∷ 0 ∷ 2 ∷ 68 ∷ 68 ∷ 0 ∷ 0 ∷ []

abbrev plain_journal : List Entry
plain_journal = opened 1 ∷ does 1 (Claim plain_code) (Claimed Mine) ∷ does 1 (Publish plain_code) deeds.Published ∷ []

abbrev plain_print : Print
plain_print = record { name = codes "A"; version = 0; chronology = main_model.chronology; scene = three_years; event = 0 }

abbrev before_print : Place
before_print = record {
  left = [];
  written = Begun 1 ∷ At 0 ∷ On three_years.grid ∷ [];
  version = Some 0;
  grid = Some three_years.grid;
  bases = record { name = codes "main"; version = 0 } ∷ [];
  todo = [];
  counts = record { claims = 1; hits = 0; mine = 1; busy = 0; no_room = 0; published = 1 };
  stopped = false;
}

-- Want of memory may stop a session that has all its messages, before it tells the print.
untold : IsStopped uncalibrated 1 (start_of (main_model ∷ [])) plain_lines plain_journal (stopped_at before_print)
untold = record {
  commands = 3;
  earlier = plain_journal;
  later = [];
  last = record before_print { written = before_print.written ++ piece.Marginal plain_print ∷ [] };
  told = before_print.written;
  missed = piece.Marginal plain_print ∷ [];
  running = record { follows = ((λ _. refl), ((λ _. refl), ((λ _. refl), tt))); reached = refl };
  written = refl;
  few = tt;
  unfinished = omega arith;
  follows = tt;
  reached = refl;
  all = refl;
}
