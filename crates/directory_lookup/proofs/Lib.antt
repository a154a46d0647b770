pub mod Untaken
