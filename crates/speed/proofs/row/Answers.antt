-- `speed::row` meets its contract: an answer for each arm that draws something, whose row antt finds equal to what the lists give by
-- computing; of the other rows the check finds by itself that no list has them. Assumes nothing.
use Rattle.speed.specs.Speed.{among, speed_for}
use Rattle.speed.proofs.row.Goals as goal

pub returns-in-1 : goal.returns-in-1
unfolding speed_for among
returns-in-1 c = rw c.in-1.is

pub returns-in-2 : goal.returns-in-2
unfolding speed_for among
returns-in-2 c = rw c.in-2.is

pub returns-in-3 : goal.returns-in-3
unfolding speed_for among
returns-in-3 c = rw c.in-3.is

pub returns-in-4 : goal.returns-in-4
unfolding speed_for among
returns-in-4 c = rw c.in-4.is

pub returns-in-5 : goal.returns-in-5
unfolding speed_for among
returns-in-5 c = rw c.in-5.is

pub returns-in-6 : goal.returns-in-6
unfolding speed_for among
returns-in-6 c = rw c.in-6.is

pub returns-in-7 : goal.returns-in-7
unfolding speed_for among
returns-in-7 c = rw c.in-7.is

pub returns-in-8 : goal.returns-in-8
unfolding speed_for among
returns-in-8 c = rw c.in-8.is

pub returns-in-9 : goal.returns-in-9
unfolding speed_for among
returns-in-9 c = rw c.in-9.is

pub returns-in-10 : goal.returns-in-10
unfolding speed_for among
returns-in-10 c = rw c.in-10.is

pub returns-in-11 : goal.returns-in-11
unfolding speed_for among
returns-in-11 c = rw c.in-11.is

pub returns-in-12 : goal.returns-in-12
unfolding speed_for among
returns-in-12 c = rw c.in-12.is

pub returns-in-13 : goal.returns-in-13
unfolding speed_for among
returns-in-13 c = rw c.in-13.is

pub returns-in-14 : goal.returns-in-14
unfolding speed_for among
returns-in-14 c = rw c.in-14.is

pub returns-in-15 : goal.returns-in-15
unfolding speed_for among
returns-in-15 c = rw c.in-15.is

pub returns-in-16 : goal.returns-in-16
unfolding speed_for among
returns-in-16 c = rw c.in-16.is

pub returns-in-17 : goal.returns-in-17
unfolding speed_for among
returns-in-17 c = rw c.in-17.is
