-- Each kind of letter is handed to its act, which is lent a part; what it says of any rest is said of the one that there is.
use Rattle.steps.proofs.message.Lending.{but_notes, by_notes, by_hints, by_board}
use Rattle.steps.proofs.message.TaskActs.{can_end, none_opened}
use borrow.Author.Rules.{rules}
use Rattle.steps.proofs.message.deliver.Goals as goal

pub enum_told-1 : goal.enum_told-1
enum_told-1 c = search rules

pub enum_told-in-Offered : goal.enum_told-in-Offered
enum_told-in-Offered c = search rules

pub offer-requires : goal.offer-requires
offer-requires c = (record { channel = c.in-Offered.field-0; made = c.in-Offered.field-1; along = c.in-Offered.field-2; is = c.in-Offered.is }, but_notes c.requires)

pub enum_told-in-Advert : goal.enum_told-in-Advert
enum_told-in-Advert c = search rules

pub advert-requires : goal.advert-requires
advert-requires c = (record { channel = c.in-Advert.field-0; processor = c.in-Advert.field-1; from = c.in-Advert.field-2; is = c.in-Advert.is }, by_notes c.requires)

pub enum_told-in-ReadyToReceive : goal.enum_told-in-ReadyToReceive
enum_told-in-ReadyToReceive c = search rules

pub call-requires : goal.call-requires
call-requires c = (record { channel = c.in-ReadyToReceive.field-0; processor = c.in-ReadyToReceive.field-1; pointer = c.in-ReadyToReceive.field-2; is = c.in-ReadyToReceive.is }, by_hints c.requires)

pub enum_told-in-Data : goal.enum_told-in-Data
enum_told-in-Data c = search rules

pub word-requires : goal.word-requires
word-requires c = (record { channel = c.in-Data.field-0; processor = c.in-Data.field-1; word = c.in-Data.field-2; is = c.in-Data.is }, by_board c.requires)

pub enum_known-m : goal.enum_known-m
enum_known-m c = search rules

pub ended-requires : goal.ended-requires
ended-requires c = (c.requires.rig.whole, can_end c.requires c.in-Terminated.h c.in-Terminated.t c.in-Terminated.is)

pub enum_told-in-Migration : goal.enum_told-in-Migration
enum_told-in-Migration c = search rules

pub mover-requires : goal.mover-requires
mover-requires c = (record { processor = c.in-Migration.field-0; task = c.in-Migration.field-1; is = c.in-Migration.is }, record { list = c.args.codes.now; holds = but_notes c.requires })

pub returns-in-Empty : goal.returns-in-Empty
returns-in-Empty c =
    let a = c.args in
    none_opened a.codes.now a.users.now a.hintprocessors.now a.hintmoves.now a.heldprocessors.now a.heldnumbers.now a.notes.now a.board.now
    c.posted.ensures c.in-Empty.is c.requires.rig.whole

pub returns-in-Offered : goal.returns-in-Offered
returns-in-Offered c = c.offer.ensures c.args.notes.now

pub returns-in-Advert : goal.returns-in-Advert
returns-in-Advert c =
    let a = c.args in
    c.advert.ensures a.hintprocessors.now a.hintmoves.now a.heldprocessors.now a.heldnumbers.now

pub returns-in-ReadyToReceive : goal.returns-in-ReadyToReceive
returns-in-ReadyToReceive c =
    let a = c.args in
    c.call.ensures a.heldprocessors.now a.heldnumbers.now a.notes.now

pub returns-in-Data : goal.returns-in-Data
returns-in-Data c =
    let a = c.args in
    c.word.ensures a.hintprocessors.now a.hintmoves.now a.heldprocessors.now a.heldnumbers.now a.notes.now

pub returns-in-Terminated : goal.returns-in-Terminated
returns-in-Terminated c =
    let a = c.args in
    rw c.in-Terminated.is (c.ended.ensures a.codes.now a.hintprocessors.now a.hintmoves.now a.heldprocessors.now a.heldnumbers.now a.notes.now)

pub returns-in-Migration : goal.returns-in-Migration
returns-in-Migration c =
    let a = c.args in
    c.mover.ensures a.codes.now a.notes.now
