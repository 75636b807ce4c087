mod Passing
mod Shown
mod ReadBack
