-- The heads of the example traces' records: each says its ticks and its size, and has one mark. Assumes nothing.
use mathlib.Core.Path.{refl}
use Rattle.layout.specs.Layout.{le_at}
use Rattle.plain_examples.specs.Traces.{second}
use Rattle.plain_examples.proofs.Blanks.{Head}

pub small_0 : Head (second 0) 1
unfolding le_at
small_0 = record { says_ticks = λ x. refl; says_size = λ x. refl; in_time = refl; in_range = refl; one_mark = λ x i. refl; bytes = refl }

pub small_1 : Head (second 1) 1
unfolding le_at
small_1 = record { says_ticks = λ x. refl; says_size = λ x. refl; in_time = refl; in_range = refl; one_mark = λ x i. refl; bytes = refl }

pub small_2 : Head (second 2) 1
unfolding le_at
small_2 = record { says_ticks = λ x. refl; says_size = λ x. refl; in_time = refl; in_range = refl; one_mark = λ x i. refl; bytes = refl }

pub half_0 : Head (second 0) 40001
unfolding le_at
half_0 = record { says_ticks = λ x. refl; says_size = λ x. refl; in_time = refl; in_range = refl; one_mark = λ x i. refl; bytes = refl }

pub half_1 : Head (second 1) 40001
unfolding le_at
half_1 = record { says_ticks = λ x. refl; says_size = λ x. refl; in_time = refl; in_range = refl; one_mark = λ x i. refl; bytes = refl }

pub outer_1 : Head (second 1) 80016
unfolding le_at
outer_1 = record { says_ticks = λ x. refl; says_size = λ x. refl; in_time = refl; in_range = refl; one_mark = λ x i. refl; bytes = refl }

pub largest_0 : Head (second 0) 1048576
unfolding le_at
largest_0 = record { says_ticks = λ x. refl; says_size = λ x. refl; in_time = refl; in_range = refl; one_mark = λ x i. refl; bytes = refl }

pub largest_1 : Head (second 1) 1048576
unfolding le_at
largest_1 = record { says_ticks = λ x. refl; says_size = λ x. refl; in_time = refl; in_range = refl; one_mark = λ x i. refl; bytes = refl }

pub largest_2 : Head (second 2) 1048576
unfolding le_at
largest_2 = record { says_ticks = λ x. refl; says_size = λ x. refl; in_time = refl; in_range = refl; one_mark = λ x i. refl; bytes = refl }
