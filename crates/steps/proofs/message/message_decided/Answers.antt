-- Each kind of letter that may say something is decided by its act; another says nothing.
use Rattle.board.specs.Lent.{lent}
use Rattle.steps.proofs.message.Lending.{but_notes, by_notes, by_hints, by_board}
use Rattle.steps.proofs.message.Unsaid.{unsaid}
use Rattle.steps.proofs.message.TaskActs.{can_end}
use borrow.Author.Rules.{rules}
use Rattle.steps.proofs.message.message_decided.Goals as goal

pub enum_told-1 : goal.enum_told-1
enum_told-1 c = search rules

pub offer_decided-requires : goal.offer_decided-requires
offer_decided-requires c = (record { channel = c.in-Offered.field-0; made = c.in-Offered.field-1; along = c.in-Offered.field-2; is = c.in-Offered.is }, but_notes c.requires)

pub enum_told-in-Advert : goal.enum_told-in-Advert
enum_told-in-Advert c = search rules

pub advert_decided-requires : goal.advert_decided-requires
advert_decided-requires c = (record { channel = c.in-Advert.field-0; processor = c.in-Advert.field-1; from = c.in-Advert.field-2; is = c.in-Advert.is }, by_notes c.requires)

pub enum_told-in-ReadyToReceive : goal.enum_told-in-ReadyToReceive
enum_told-in-ReadyToReceive c = search rules

pub call_decided-requires : goal.call_decided-requires
call_decided-requires c = (record { channel = c.in-ReadyToReceive.field-0; processor = c.in-ReadyToReceive.field-1; pointer = c.in-ReadyToReceive.field-2; is = c.in-ReadyToReceive.is }, by_hints c.requires)

pub enum_told-in-Data : goal.enum_told-in-Data
enum_told-in-Data c = search rules

pub word_decided-requires : goal.word_decided-requires
word_decided-requires c = (record { channel = c.in-Data.field-0; processor = c.in-Data.field-1; word = c.in-Data.field-2; is = c.in-Data.is }, by_board c.requires)

pub enum_known-m : goal.enum_known-m
enum_known-m c = search rules

pub ended_decided-requires : goal.ended_decided-requires
ended_decided-requires c = can_end c.requires c.in-Terminated.h c.in-Terminated.t c.in-Terminated.is

pub returns-in-Offered : goal.returns-in-Offered
returns-in-Offered c = c.offer_decided.ensures c.args.notes.now

pub returns-in-Advert : goal.returns-in-Advert
returns-in-Advert c =
    let a = c.args in
    c.advert_decided.ensures a.hintprocessors.now a.hintmoves.now a.heldprocessors.now a.heldnumbers.now

pub returns-in-ReadyToReceive : goal.returns-in-ReadyToReceive
returns-in-ReadyToReceive c =
    let a = c.args in
    c.call_decided.ensures a.heldprocessors.now a.heldnumbers.now a.notes.now

pub returns-in-Data : goal.returns-in-Data
returns-in-Data c =
    let a = c.args in
    c.word_decided.ensures a.hintprocessors.now a.hintmoves.now a.heldprocessors.now a.heldnumbers.now a.notes.now

pub returns-in-Terminated : goal.returns-in-Terminated
returns-in-Terminated c =
    let a = c.args in
    rw c.in-Terminated.is (c.ended_decided.ensures a.codes.now a.hintprocessors.now a.hintmoves.now a.heldprocessors.now a.heldnumbers.now a.notes.now)

pub returns-in_default : goal.returns-in_default
returns-in_default c =
    let a = c.args in
    unsaid a.codes.now a.users.now
    (lent a.hintprocessors.now a.hintmoves.now a.heldprocessors.now a.heldnumbers.now a.notes.now a.board.now)
    a.m c.in_default.in_default-own.keys6 c.posted.ensures
